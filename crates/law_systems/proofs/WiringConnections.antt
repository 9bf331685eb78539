-- What an event makes of the ends of connections: those that there were stay, and one comes at most.
use Rattle.std.proofs.Common.{◌≡◌, ◌⊎◌, inl, inr, ℕ, zero, suc, List, [], ◌∷◌, ◌++◌, Option, None, Some, length, refl, sym, ap, subst, ◌∙◌}
use Rattle.std.specs.Prelude.{slice_get, slice_set}
use Rattle.mr_links.specs.declared.link_id.LinkId.{LinkId}
use Rattle.mr_links.specs.declared.side.Side.{Side}
use Rattle.mr_links.specs.declared.side.Side.TheVariants as side
use Rattle.mr_loop.specs.Causes.{Act, at_dial, at_step, at_tick}
use Rattle.mr_loop.specs.Rows.{Event, acts, appends, breaks, closes, fails, finds_none, hears_end, idles, is_deaf, is_refused, joins, loses, misses, misses_dial, misses_tick, settles, spills, stops, takes, tears, turns_away, waits, wakes, writes}
use Rattle.law_refinement.proofs.Places.{push_cases, push_here, push_old, set_cases, set_here}
use Rattle.law_systems.specs.System.{Connection, End, Pipe, accepted_by, dialled_by, end_at, from_side, of_client, of_itself, to_side, with_pipe_from, with_pipe_to}
use Rattle.law_systems.specs.Network.{Accepts, Goes, GoesBy, HasEnd, Reads, Writes, a_clients, end_of, from_client, of_server, one_that_waits, read_on, written_on}
use Rattle.law_systems.proofs.WiringEvents.{came_by, came_in}

-- what stands at a place once another one was set
pub set_stays : {A : Type 0} (xs : List A) (i j : ℕ) (x k : A) → slice_get xs j ≡ Some k
    → ((j ≡ i) × (slice_get (slice_set xs i x) j ≡ Some x)) ⊎ (slice_get (slice_set xs i x) j ≡ Some k)
set_stays [] i j x k e = absurd (cc)
set_stays (z ∷ xs) zero zero x k e = inl (refl, refl)
set_stays (z ∷ xs) zero (suc j) x k e = inr e
set_stays (z ∷ xs) (suc i) zero x k e = inr e
set_stays {A} (z ∷ xs) (suc i) (suc j) x k e = go (set_stays xs i j x k e) where
  go : ((j ≡ i) × (slice_get (slice_set xs i x) j ≡ Some x)) ⊎ (slice_get (slice_set xs i x) j ≡ Some k)
      → ((suc j ≡ suc i) × (slice_get (slice_set xs i x) j ≡ Some x)) ⊎ (slice_get (slice_set xs i x) j ≡ Some k)
  go (inl p) = inl (ap suc p.0, p.1)
  go (inr p) = inr p

-- a connection has this end there
pub record Has (cs : List Connection) (c : ℕ) (at : Side) (e : End) : Type 0 where
  pub connection : Connection
  pub end : HasEnd cs c at connection e

has : {cs : List Connection} {c : ℕ} {at : Side} {k : Connection} {e : End} → HasEnd cs c at k e → Has cs c at e
has {cs} {c} {at} {k} h = record { connection = k; end = h }

-- This end came, of this life of the server.
pub record IsNew (n life : ℕ) (new : Option LinkId) (number : ℕ) (side : Side) (c : ℕ) (at : Side) (e : End) : Type 0 where
  pub socket : LinkId
  pub is : new ≡ Some socket
  pub number_is : c ≡ number
  pub side_is : at ≡ side
  pub end_is : e ≡ end_of n life socket

pub record Grows (n life : ℕ) (new : Option LinkId) (cs ds : List Connection) : Type 0 where
  pub number : ℕ
  pub side : Side
  pub stays : (c : ℕ) (at : Side) (e : End) → Has cs c at e → Has ds c at e
  pub was : (c : ℕ) (at : Side) (e : End) → Has ds c at e → Has cs c at e ⊎ IsNew n life new number side c at e
  pub there : (socket : LinkId) → new ≡ Some socket → Has ds number side (end_of n life socket)

-- ---- the ends are the same
pub none_grow : (n life : ℕ) (cs ds : List Connection) → ds ≡ cs → Grows n life None cs ds
none_grow n life cs ds e = record {
  number = zero;
  side = side.Server;
  stays = λ c at end h. subst (λ z. Has z c at end) (sym e) h;
  was = λ c at end h. inl (subst (λ z. Has z c at end) e h);
  there = λ socket some. absurd (cc);
}

-- .. of one that was set
set_grow : (n life : ℕ) (cs : List Connection) (c : ℕ) (k m : Connection) → slice_get cs c ≡ Some k
    → ((at : Side) → end_at at m ≡ end_at at k) → Grows n life None cs (slice_set cs c m)
set_grow n life cs c k m found same = record {
  number = zero;
  side = side.Server;
  stays = λ d at e h. forth d at e h (set_stays cs c d m h.connection h.end.found);
  was = λ d at e h. inl (back d at e h (set_cases cs c d m h.connection h.end.found));
  there = λ socket some. absurd (cc);
} where
  forth : (d : ℕ) (at : Side) (e : End) (h : Has cs d at e)
      → ((d ≡ c) × (slice_get (slice_set cs c m) d ≡ Some m)) ⊎ (slice_get (slice_set cs c m) d ≡ Some h.connection) → Has (slice_set cs c m) d at e
  forth d at e h (inl p) =
      let one : h.connection ≡ k = let x = h.end.found in let y : slice_get cs d ≡ Some k = subst (λ i. slice_get cs i ≡ Some k) (sym p.0) found in cc in
      record { connection = m; end = record { found = p.1; has = same at ∙ (sym (ap (end_at at) one) ∙ h.end.has) } }
  forth d at e h (inr p) = record { connection = h.connection; end = record { found = p; has = h.end.has } }

  back : (d : ℕ) (at : Side) (e : End) (h : Has (slice_set cs c m) d at e)
      → ((d ≡ c) × (h.connection ≡ m)) ⊎ ((d ≡ c → ⊥) × (slice_get cs d ≡ Some h.connection)) → Has cs d at e
  back d at e h (inl p) = record { connection = k; end = record { found = subst (λ i. slice_get cs i ≡ Some k) (sym p.0) found; has = sym (same at) ∙ (sym (ap (end_at at) p.1) ∙ h.end.has) } }
  back d at e h (inr p) = record { connection = h.connection; end = record { found = p.1; has = h.end.has } }

to_same : (to at : Side) (p : Pipe) (k : Connection) → end_at at (with_pipe_to to p k) ≡ end_at at k
to_same side.Opener side.Opener p k = refl
to_same side.Opener side.Server p k = refl
to_same side.Server side.Opener p k = refl
to_same side.Server side.Server p k = refl

from_same : (from at : Side) (p : Pipe) (k : Connection) → end_at at (with_pipe_from from p k) ≡ end_at at k
from_same side.Opener side.Opener p k = refl
from_same side.Opener side.Server p k = refl
from_same side.Server side.Opener p k = refl
from_same side.Server side.Server p k = refl

by_list : {n life : ℕ} {new : Option LinkId} {cs ds es : List Connection} → es ≡ ds → Grows n life new cs ds → Grows n life new cs es
by_list {n} {life} {new} {cs} e g = subst (λ z. Grows n life new cs z) (sym e) g

reads_grow : (n life : ℕ) (cs ds : List Connection) (e : End) (bytes : List ℕ) → Reads cs e bytes ds → Grows n life None cs ds
reads_grow n life cs ds e bytes (of_server c at k end dialler dialled next is) =
    by_list is (set_grow n life cs c k (with_pipe_to at (read_on bytes (to_side at k)) k) end.found (λ to. to_same at to (read_on bytes (to_side at k)) k))
reads_grow n life cs ds e bytes (from_client c at k end none is) = none_grow n life cs ds is

writes_grow : (n life : ℕ) (cs ds : List Connection) (e : End) (bytes : List ℕ) → Writes cs e bytes ds → Grows n life None cs ds
writes_grow n life cs ds e bytes w =
    let p = written_on bytes (from_side w.at w.connection) in
    by_list w.is (set_grow n life cs w.number w.connection (with_pipe_from w.at p w.connection) w.end.found (λ to. from_same w.at to p w.connection))

-- ---- one comes
-- behind all others: of its sides this one has an end, and the other has none
push_grow : (n life : ℕ) (cs : List Connection) (socket : LinkId) (k : Connection) (one : Side) → end_at one k ≡ Some (end_of n life socket)
    → ((at : Side) (e : End) → end_at at k ≡ Some e → (at ≡ one) × (e ≡ end_of n life socket)) → Grows n life (Some socket) cs (cs ++ k ∷ [])
push_grow n life cs socket k one there alone = record {
  number = length cs;
  side = one;
  stays = λ c at e h. record { connection = h.connection; end = record { found = push_old cs k c h.connection h.end.found; has = h.end.has } };
  was = λ c at e h. back c at e h (push_cases cs k c h.connection h.end.found);
  there = λ j some. let same : socket ≡ j = cc in subst (λ z. Has (cs ++ k ∷ []) (length cs) one (end_of n life z)) same (record { connection = k; end = record { found = push_here cs k; has = there } });
} where
  back : (c : ℕ) (at : Side) (e : End) (h : Has (cs ++ k ∷ []) c at e)
      → ((c ≡ length cs) × (h.connection ≡ k)) ⊎ (slice_get cs c ≡ Some h.connection)
      → Has cs c at e ⊎ IsNew n life (Some socket) (length cs) one c at e
  back c at e h (inl p) = let x = alone at e (sym (ap (end_at at) p.1) ∙ h.end.has) in inr (record { socket = socket; is = refl; number_is = p.0; side_is = x.0; end_is = x.1 })
  back c at e h (inr p) = inl (record { connection = h.connection; end = record { found = p; has = h.end.has } })

-- a connection without ends comes: the ends are the same
no_end : (g : Side) (e : End) → end_at g of_itself ≡ Some e → ⊥
no_end side.Opener e h = absurd (cc)
no_end side.Server e h = absurd (cc)

pub itself_grow : (n life : ℕ) (cs ds : List Connection) → ds ≡ cs ++ of_itself ∷ [] → Grows n life None cs ds
itself_grow n life cs ds is = by_list is (record {
  number = zero;
  side = side.Server;
  stays = λ c at e h. record { connection = h.connection; end = record { found = push_old cs of_itself c h.connection h.end.found; has = h.end.has } };
  was = λ c at e h. inl (back c at e h (push_cases cs of_itself c h.connection h.end.found));
  there = λ socket some. absurd (cc);
})
  where
    back : (c : ℕ) (at : Side) (e : End) (h : Has (cs ++ of_itself ∷ []) c at e) → ((c ≡ length cs) × (h.connection ≡ of_itself)) ⊎ (slice_get cs c ≡ Some h.connection) → Has cs c at e
    back c at e h (inl p) = absurd (no_end at e (sym (ap (end_at at) p.1) ∙ h.end.has))
    back c at e h (inr p) = record { connection = h.connection; end = record { found = p; has = h.end.has } }

client_alone : (x : End) (at : Side) (e : End) → end_at at (of_client x) ≡ Some e → (at ≡ side.Server) × (e ≡ x)
client_alone x side.Opener e is = absurd (cc)
client_alone x side.Server e is = let same : e ≡ x = cc in (refl, same)

dialled_alone : (x : End) (at : Side) (e : End) → end_at at (dialled_by x) ≡ Some e → (at ≡ side.Opener) × (e ≡ x)
dialled_alone x side.Opener e is = let same : e ≡ x = cc in (refl, same)
dialled_alone x side.Server e is = absurd (cc)

-- .. or at one that waits
wait_grow : (n life : ℕ) (cs : List Connection) (socket : LinkId) (c : ℕ) (k : Connection) → slice_get cs c ≡ Some k → k.acceptor ≡ None
    → Grows n life (Some socket) cs (slice_set cs c (accepted_by (end_of n life socket) k))
wait_grow n life cs socket c k found free = record {
  number = c;
  side = side.Server;
  stays = λ d at e h. forth d at e h (set_stays cs c d (accepted_by (end_of n life socket) k) h.connection h.end.found);
  was = λ d at e h. back d at e h (set_cases cs c d (accepted_by (end_of n life socket) k) h.connection h.end.found);
  there = λ j some. let same : socket ≡ j = cc in subst (λ z. Has (slice_set cs c (accepted_by (end_of n life socket) k)) c side.Server (end_of n life z)) same
      (record { connection = accepted_by (end_of n life socket) k; end = record { found = set_here cs c (accepted_by (end_of n life socket) k) k found; has = refl } });
} where
  kept : (at : Side) (e : End) → end_at at k ≡ Some e → end_at at (accepted_by (end_of n life socket) k) ≡ Some e
  kept side.Opener e is = is
  kept side.Server e is = let wrong : ◌≡◌ {A = Option End} None (Some e) = sym free ∙ is in absurd (cc)

  forth : (d : ℕ) (at : Side) (e : End) (h : Has cs d at e)
      → ((d ≡ c) × (slice_get (slice_set cs c (accepted_by (end_of n life socket) k)) d ≡ Some (accepted_by (end_of n life socket) k)))
      ⊎ (slice_get (slice_set cs c (accepted_by (end_of n life socket) k)) d ≡ Some h.connection) → Has (slice_set cs c (accepted_by (end_of n life socket) k)) d at e
  forth d at e h (inl p) =
      let one : h.connection ≡ k = let x = h.end.found in let y : slice_get cs d ≡ Some k = subst (λ i. slice_get cs i ≡ Some k) (sym p.0) found in cc in
      record { connection = accepted_by (end_of n life socket) k; end = record { found = p.1; has = kept at e (sym (ap (end_at at) one) ∙ h.end.has) } }
  forth d at e h (inr p) = record { connection = h.connection; end = record { found = p; has = h.end.has } }

  sided : (d : ℕ) (at : Side) (e : End) → d ≡ c → end_at at (accepted_by (end_of n life socket) k) ≡ Some e
      → Has cs d at e ⊎ IsNew n life (Some socket) c side.Server d at e
  sided d side.Opener e same is = inl (record { connection = k; end = record { found = subst (λ i. slice_get cs i ≡ Some k) (sym same) found; has = is } })
  sided d side.Server e same is = let one : e ≡ end_of n life socket = cc in inr (record { socket = socket; is = refl; number_is = same; side_is = refl; end_is = one })

  back : (d : ℕ) (at : Side) (e : End) (h : Has (slice_set cs c (accepted_by (end_of n life socket) k)) d at e)
      → ((d ≡ c) × (h.connection ≡ accepted_by (end_of n life socket) k)) ⊎ ((d ≡ c → ⊥) × (slice_get cs d ≡ Some h.connection))
      → Has cs d at e ⊎ IsNew n life (Some socket) c side.Server d at e
  back d at e h (inl p) = sided d at e p.0 (sym (ap (end_at at) p.1) ∙ h.end.has)
  back d at e h (inr p) = inl (record { connection = h.connection; end = record { found = p.1; has = h.end.has } })

accepts_grow : (n life : ℕ) (cs ds : List Connection) (socket : LinkId) → Accepts cs (end_of n life socket) ds → Grows n life (Some socket) cs ds
accepts_grow n life cs ds socket (a_clients is) =
    by_list is (push_grow n life cs socket (of_client (end_of n life socket)) side.Server refl (client_alone (end_of n life socket)))
accepts_grow n life cs ds socket (one_that_waits c k dialler found dialled free is) = by_list is (wait_grow n life cs socket c k found free)

-- ---- by event
acts_grow : (n life : ℕ) (cs ds : List Connection) (act : Act) → GoesBy n life cs act ds → Grows n life (came_in act) cs ds
acts_grow n life cs ds (at_step socket link given fresh news) g = none_grow n life cs ds g
acts_grow n life cs ds (at_tick given) g = none_grow n life cs ds g
acts_grow n life cs ds (at_dial socket link) g =
    by_list g (push_grow n life cs socket (dialled_by (end_of n life socket)) side.Opener refl (dialled_alone (end_of n life socket)))

pub goes_grow : (n life : ℕ) (cs ds : List Connection) (e : Event) → Goes n life cs e ds → Grows n life (came_by e) cs ds
goes_grow n life cs ds (wakes now) g = none_grow n life cs ds g
goes_grow n life cs ds waits g = none_grow n life cs ds g
goes_grow n life cs ds (joins socket link) g = accepts_grow n life cs ds socket g
goes_grow n life cs ds turns_away g = none_grow n life cs ds g
goes_grow n life cs ds (takes socket bytes) g = reads_grow n life cs ds (end_of n life socket) bytes g
goes_grow n life cs ds (finds_none socket) g = none_grow n life cs ds g
goes_grow n life cs ds (hears_end socket link) g = none_grow n life cs ds g
goes_grow n life cs ds (loses socket) g = none_grow n life cs ds g
goes_grow n life cs ds (misses socket) g = none_grow n life cs ds g
goes_grow n life cs ds (is_refused socket link given fresh) g = none_grow n life cs ds g
goes_grow n life cs ds (is_deaf socket link) g = none_grow n life cs ds g
goes_grow n life cs ds (idles socket link given fresh) g = none_grow n life cs ds g
goes_grow n life cs ds (acts act outs) g = acts_grow n life cs ds act g
goes_grow n life cs ds (spills act outs) g = acts_grow n life cs ds act g
goes_grow n life cs ds (tears act outs) g = acts_grow n life cs ds act g
goes_grow n life cs ds (writes socket bytes) g = writes_grow n life cs ds (end_of n life socket) bytes g
goes_grow n life cs ds (breaks socket) g = none_grow n life cs ds g
goes_grow n life cs ds (closes socket) g = none_grow n life cs ds g
goes_grow n life cs ds (appends texts) g = none_grow n life cs ds g
goes_grow n life cs ds fails g = none_grow n life cs ds g
goes_grow n life cs ds (misses_tick given) g = none_grow n life cs ds g
goes_grow n life cs ds misses_dial g = none_grow n life cs ds g
goes_grow n life cs ds (settles hurries) g = none_grow n life cs ds g
goes_grow n life cs ds (stops stop) g = none_grow n life cs ds g
