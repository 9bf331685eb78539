-- That a node forgets ends which it has closed already, as the outs of a call say so, is seen by no one.
use Rattle.std.proofs.Common.{◌≡◌, ◌||◌, inl, ℕ, List, [], ◌∷◌, Bool, true, false, cond, Option, None, Some, refl, sym, ap, subst, ◌∙◌}
use Rattle.std.specs.Ordering.{eq_by_cmp}
use Rattle.std.specs.FinMap.{get-remove}
use Rattle.mr_links.specs.LinkId.{id_cmp}
use Rattle.mr_links.specs.declared.link_id.LinkId.{LinkId}
use Rattle.mr_links.proofs.LinkRows.{ids_total}
use Rattle.mr_node_links.specs.Replicas.{is_named}
use Rattle.mr_node_output.specs.Outs.{OutsState}
use Rattle.mr_node_spec.specs.State.{NodeState, end_of}
use Rattle.mr_node_spec.specs.Sound.{IsSound}
use Rattle.mr_node_spec.specs.LinkRows.{closed_at}
use Rattle.mr_node_state.proofs.Nodes.{closed_node}
use Rattle.mr_loop.proofs.Waiting.{itself}
use Rattle.law_refinement.specs.State.{Slot, WorldState}
use Rattle.law_refinement.specs.Worlds.{IsWorld}
use Rattle.law_refinement.specs.Events.{IsRunning}
use Rattle.law_refinement.specs.Carrying.{put_node}
use Rattle.law_refinement.proofs.Places.{set_here, set_same}
use Rattle.law_refinement.specs.Runs.{Happens, Run, last_of}
use Rattle.mr_world_parts.proofs.Places.{set_twice}
use Rattle.mr_world.proofs.Kept.{reads_without}
use Rattle.law_servers.specs.Calling.{break}
use Rattle.law_servers.specs.Worlds.{Becomes, NoneOpen}
use Rattle.law_servers.proofs.Moving.{servers_keep_worlds}
use Rattle.law_systems.specs.System.{System}
use Rattle.law_systems.proofs.Mirrors.{Leads, Mirrors}
use Rattle.law_systems.proofs.Parting.{closed_all, closed_behind, closed_if}
use Rattle.law_systems.proofs.Pushing.{ends_at, parting}

-- ---- from one World to another
pub record RunsTo (w v : WorldState) : Type 0 where
  pub worlds : List WorldState
  pub run : Run w worlds
  pub ends : last_of w worlds ≡ v
  pub world : IsWorld v

pub runs_none : (w : WorldState) → IsWorld w → RunsTo w w
runs_none w is = record { worlds = []; run = tt; ends = refl; world = is }

pub runs_more : (w u v : WorldState) → Happens w u × IsWorld u → RunsTo u v → RunsTo w v
runs_more w u v first rest = record { worlds = u ∷ rest.worlds; run = (first.0, first.1, rest.run); ends = rest.ends; world = rest.world }

pub runs_as : (w u v : WorldState) → u ≡ v → RunsTo w u → RunsTo w v
runs_as w u v same run = subst (RunsTo w) same run

-- .. and beside that are the servers
pub leads_to : (w v : WorldState) (y : System) → RunsTo w v → Mirrors y v → Leads w y
leads_to w v y run mirrors = record { worlds = run.worlds; run = run.run; mirrors = subst (Mirrors y) (sym run.ends) mirrors }

-- ---- a node without one of its ends
pub closed_sound : (a : NodeState) (l : LinkId) → IsSound a → IsSound (closed_at l a)
closed_sound a l i = record {
  node = closed_node a l i.node;
  window = i.window;
  id = i.id;
  second = i.second;
  upstream = i.upstream;
  reading = reads_without a l a.follow i.reading;
}

-- what isn't open doesn't come
pub none_closed : (a : NodeState) (l x : LinkId) → NoneOpen a x → NoneOpen (closed_at l a) x
none_closed a l x none = go (eq_by_cmp id_cmp x l) (get-remove ids_total a.ends.open_links l x) none
  where
    go : (v : Bool) → end_of (closed_at l a) x ≡ cond v None (end_of a x) → NoneOpen a x → NoneOpen (closed_at l a) x
    go true e h = NoneOpen.absent e
    go false e (NoneOpen.absent h) = NoneOpen.absent (e ∙ h)
    go false e (NoneOpen.shut h) = NoneOpen.shut (record { is = e ∙ h.is })

-- ---- names
named_first : (l : LinkId) (links : List LinkId) → is_named (l ∷ links) l ≡ true
named_first l links = ap (λ b. cond b true (is_named links l)) (itself l)

named_later : (x l : LinkId) (links : List LinkId) → is_named links x ≡ true → is_named (l ∷ links) x ≡ true
named_later x l links named = go (eq_by_cmp id_cmp x l)
  where
    go : (b : Bool) → cond b true (is_named links x) ≡ true
    go true = refl
    go false = named

either_way : (a b : Bool) → b ≡ true → (a || b) ≡ true
either_way true b e = refl
either_way false b e = e

-- ---- the node of a World
pub put_self : (w : WorldState) (n : ℕ) (a : Slot) → IsRunning w n a → put_node w n a a.node ≡ w
put_self w n a running = ap (λ (z : List Slot). record w { slots = z }) (set_same w.slots n a running.at)

pub put_twice : (w : WorldState) (n : ℕ) (a : Slot) (b c : NodeState) → put_node (put_node w n a b) n (record a { node = b }) c ≡ put_node w n a c
put_twice w n a b c = ap (λ (z : List Slot). record w { slots = z }) (set_twice w.slots n (record a { node = b }) (record a { node = c }))

module _ (n : ℕ) where
  closes_one : (w : WorldState) (a : Slot) (l : LinkId) → IsWorld w → IsRunning w n a → IsSound a.node → NoneOpen a.node l
      → Happens w (put_node w n a (closed_at l a.node)) × IsWorld (put_node w n a (closed_at l a.node))
  closes_one w a l is running sound none = servers_keep_worlds w (put_node w n a (closed_at l a.node)) is (inl (record {
    number = n;
    slot = a;
    running = running;
    call = break l;
    node = closed_at l a.node;
    sound = closed_sound a.node l sound;
    is = refl;
    becomes = Becomes.unseen none refl;
  }))

  -- the node behind that
  still_running : (w : WorldState) (a : Slot) (l : LinkId) → IsRunning w n a → IsRunning (put_node w n a (closed_at l a.node)) n (record a { node = closed_at l a.node })
  still_running w a l running = record { at = set_here w.slots n (record a { node = closed_at l a.node }) a running.at; up = running.up }

  closes_all : (links : List LinkId) (w : WorldState) (a : Slot) → IsWorld w → IsRunning w n a → IsSound a.node → ((x : LinkId) → is_named links x ≡ true → NoneOpen a.node x)
      → RunsTo w (put_node w n a (closed_all links a.node))
  closes_all [] w a is running sound none = runs_as w w (put_node w n a a.node) (sym (put_self w n a running)) (runs_none w is)
  closes_all (l ∷ links) w a is running sound none =
      let u = put_node w n a (closed_at l a.node) in
      let first = closes_one w a l is running sound (none l (named_first l links)) in
      runs_more w u (put_node w n a (closed_all links (closed_at l a.node))) first
      (runs_as u (put_node u n (record a { node = closed_at l a.node }) (closed_all links (closed_at l a.node))) (put_node w n a (closed_all links (closed_at l a.node)))
      (put_twice w n a (closed_at l a.node) (closed_all links (closed_at l a.node)))
      (closes_all links u (record a { node = closed_at l a.node }) first.1 (still_running w a l running) (closed_sound a.node l sound)
      (λ x h. none_closed a.node l x (none x (named_later x l links h)))))

  -- .. behind the reply's link, if that is closed
  closes_both : (link : Option LinkId) (closes : Bool) (links : List LinkId) (w : WorldState) (a : Slot) → IsWorld w → IsRunning w n a → IsSound a.node
      → ((x : LinkId) → (ends_at link closes x || is_named links x) ≡ true → NoneOpen a.node x) → RunsTo w (put_node w n a (closed_all links (closed_if link closes a.node)))
  closes_both None true links w a is running sound none = closes_all links w a is running sound (λ x h. none x h)
  closes_both None false links w a is running sound none = closes_all links w a is running sound (λ x h. none x h)
  closes_both (Some l) true links w a is running sound none =
      let u = put_node w n a (closed_at l a.node) in
      let first = closes_one w a l is running sound (none l (ap (λ b. b || is_named links l) (itself l))) in
      runs_more w u (put_node w n a (closed_all links (closed_at l a.node))) first
      (runs_as u (put_node u n (record a { node = closed_at l a.node }) (closed_all links (closed_at l a.node))) (put_node w n a (closed_all links (closed_at l a.node)))
      (put_twice w n a (closed_at l a.node) (closed_all links (closed_at l a.node)))
      (closes_all links u (record a { node = closed_at l a.node }) first.1 (still_running w a l running) (closed_sound a.node l sound)
      (λ x h. none_closed a.node l x (none x (either_way (eq_by_cmp id_cmp x l) (is_named links x) h)))))
  closes_both (Some l) false links w a is running sound none = closes_all links w a is running sound (λ x h. none x h)

  -- **Where all ends that outs close are closed already, a World goes on to the one with the node without them.**
  pub closes_behind : (o : OutsState) (w : WorldState) (a : Slot) → IsWorld w → IsRunning w n a → IsSound a.node → ((x : LinkId) → parting o x ≡ true → NoneOpen a.node x)
      → RunsTo w (put_node w n a (closed_behind o a.node))
  closes_behind o w a is running sound none = closes_both o.link o.closes o.closed w a is running sound none
