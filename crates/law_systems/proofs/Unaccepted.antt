-- Of a connection that waits nothing was read yet of what the dialler wrote.
use Rattle.std.proofs.Common.{◌≡◌, ◌≢◌, ◌++◌, ◌⊎◌, inl, inr, ℕ, List, [], ◌∷◌, None, Some, length, refl, sym, ap, subst, ◌∙◌}
use Rattle.std.specs.Prelude.{slice_get, slice_set}
use Rattle.law_refinement.proofs.Places.{push_cases, set_cases}
use Rattle.mr_loop.specs.Causes.{Act, at_dial, at_step, at_tick}
use Rattle.mr_loop.specs.Rows.{Event, acts, joins, spills, takes, tears, writes}
use Rattle.mr_links.specs.declared.side.Side.{Side}
use Rattle.mr_links.specs.declared.side.Side.TheVariants as side
use Rattle.law_systems.specs.System.{Connection, End, System, accepted_by, dialled_by, end_at, from_side, no_system, of_client, of_itself, to_side, with_pipe_from, with_pipe_to}
use Rattle.law_systems.specs.Network.{Accepts, Goes, GoesBy, Reads, end_of, read_on, written_on}
use Rattle.law_systems.specs.Steps.{Step}
use Rattle.law_systems.proofs.Apart.{no_some}

pub record AreUnread (cs : List Connection) : Type 0 where
  pub unread : (c : ℕ) (k : Connection) → slice_get cs c ≡ Some k → k.acceptor ≡ None → k.asked.read ≡ 0

-- one comes
module _ (cs : List Connection) (u : AreUnread cs) where
  with_one : (q : Connection) → (q.acceptor ≡ None → q.asked.read ≡ 0) → AreUnread (cs ++ q ∷ [])
  with_one q new = record { unread = λ c k e. go c k (push_cases cs q c k e) }
    where
      go : (c : ℕ) (k : Connection) → ((c ≡ length cs) × (k ≡ q)) ⊎ (slice_get cs c ≡ Some k) → k.acceptor ≡ None → k.asked.read ≡ 0
      go c k (inl p) = subst (λ (z : Connection). z.acceptor ≡ None → z.asked.read ≡ 0) (sym p.1) new
      go c k (inr p) = u.unread c k p

  -- one is another
  with_other : (b : ℕ) (q : Connection) → (q.acceptor ≡ None → q.asked.read ≡ 0) → AreUnread (slice_set cs b q)
  with_other b q new = record { unread = λ c k e. go c k (set_cases cs b c q k e) }
    where
      go : (c : ℕ) (k : Connection) → ((c ≡ b) × (k ≡ q)) ⊎ ((c ≢ b) × (slice_get cs c ≡ Some k)) → k.acceptor ≡ None → k.asked.read ≡ 0
      go c k (inl p) = subst (λ (z : Connection). z.acceptor ≡ None → z.asked.read ≡ 0) (sym p.1) new
      go c k (inr p) = u.unread c k p.1

  -- bytes are read at an end, which is there
  was_read : (b : ℕ) (k : Connection) (a : Side) (e : End) (bytes : List ℕ) → slice_get cs b ≡ Some k → end_at a k ≡ Some e → AreUnread (slice_set cs b (with_pipe_to a (read_on bytes (to_side a k)) k))
  was_read b k side.Server e bytes found has = with_other b _ (λ none. absurd (no_some e (sym none ∙ has)))
  was_read b k side.Opener e bytes found has = with_other b _ (u.unread b k found)

  was_written : (b : ℕ) (k : Connection) (a : Side) (bytes : List ℕ) → slice_get cs b ≡ Some k → AreUnread (slice_set cs b (with_pipe_from a (written_on bytes (from_side a k)) k))
  was_written b k side.Server bytes found = with_other b _ (u.unread b k found)
  was_written b k side.Opener bytes found = with_other b _ (u.unread b k found)

  was_accepted : (e : End) (ds : List Connection) → Accepts cs e ds → AreUnread ds
  was_accepted e ds (Accepts.a_clients is) = subst AreUnread (sym is) (with_one (of_client e) (λ none. absurd (no_some e (sym none))))
  was_accepted e ds (Accepts.one_that_waits c k dialler found dialled none is) = subst AreUnread (sym is) (with_other c (accepted_by e k) (λ none. absurd (no_some e (sym none))))

  reads : (e : End) (bytes : List ℕ) (ds : List Connection) → Reads cs e bytes ds → AreUnread ds
  reads e bytes ds (Reads.of_server c a k end dialler dialled next is) = subst AreUnread (sym is) (was_read c k a e bytes end.found end.has)
  reads e bytes ds (Reads.from_client c a k end none is) = subst AreUnread (sym is) u

  module _ (n life : ℕ) where
    goes_by : (act : Act) (ds : List Connection) → GoesBy n life cs act ds → AreUnread ds
    goes_by (at_step socket link given fresh news) ds is = subst AreUnread (sym is) u
    goes_by (at_tick given) ds is = subst AreUnread (sym is) u
    goes_by (at_dial socket link) ds is = subst AreUnread (sym is) (with_one (dialled_by (end_of n life socket)) (λ none. refl))

    pub goes_unread : (event : Event) (ds : List Connection) → Goes n life cs event ds → AreUnread ds
    goes_unread (joins socket link) ds h = was_accepted (end_of n life socket) ds h
    goes_unread (takes socket bytes) ds h = reads (end_of n life socket) bytes ds h
    goes_unread (writes socket bytes) ds h = subst AreUnread (sym h.is) (was_written h.number h.connection h.at bytes h.end.found)
    goes_unread (acts act outs) ds h = goes_by act ds h
    goes_unread (spills act outs) ds h = goes_by act ds h
    goes_unread (tears act outs) ds h = goes_by act ds h
    goes_unread _ ds h = subst AreUnread (sym h) u

pub none_unread : AreUnread no_system.connections
none_unread = record { unread = λ c k e. absurd (no_some k e) }

-- **It stays so, whatever happens.**
pub steps_unread : (x y : System) → Step x y → AreUnread x.connections → AreUnread y.connections
steps_unread x y (Step.begins id file s new begins is) u = subst AreUnread (sym (ap (λ (z : System). z.connections) is)) u
steps_unread x y (Step.begins_again n server id file held s found new begins is) u = subst AreUnread (sym (ap (λ (z : System). z.connections) is)) u
steps_unread x y (Step.asks_itself n life s t taken at asks is) u = subst AreUnread (sym (ap (λ (z : System). z.connections) is)) (with_one x.connections u of_itself (λ none. refl))
steps_unread x y (Step.turns n life s t tells mode event connections at new happens goes is) u =
    subst AreUnread (sym (ap (λ (z : System). z.connections) is)) (goes_unread x.connections u n life event connections goes)
steps_unread x y (Step.stops_its_node n life s t found told is) u = subst AreUnread (sym (ap (λ (z : System). z.connections) is)) u
steps_unread x y (Step.ends n server found is) u = subst AreUnread (sym (ap (λ (z : System). z.connections) is)) u
