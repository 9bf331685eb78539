-- A node that dials another, or itself, at once or in two events: that what is true of each World stays.
use Rattle.std.proofs.Common.{◌≡◌, ◌≢◌, ◌++◌, ◌∷◌, [], ℕ, cond, false, true, None, Some, Result, Ok, Err, length, refl, sym, ap, subst, ◌∙◌, arith}
use Rattle.std.specs.Prelude.{slice_set}
use Rattle.std.specs.FinMap.{get, get-insert}
use Rattle.std.proofs.lemmas.Option.{none-some}
use Rattle.mr_links.specs.Links.{Links}
use Rattle.mr_links.specs.declared.link_id.LinkId.{LinkId}
use Rattle.mr_links.proofs.LinkRows.{ids_total}
use Rattle.mr_links.proofs.Generations.{inserted_once}
use Rattle.mr_follower.specs.State.{FollowState}
use Rattle.mr_node_links.specs.State.{EndState, end_at, opened_as}
use Rattle.mr_node_links.specs.State.EndState.{client, upstream}
use Rattle.mr_node_links.proofs.Naming.{at_or_other}
use Rattle.mr_node_spec.specs.State.{NodeState, end_of, stopped_as}
use Rattle.mr_node_spec.specs.LinkRows.{Opens}
use Rattle.law_refinement.specs.Way.{IsWay, no_way, unread}
use Rattle.law_refinement.specs.State.{Link, Slot, WorldState}
use Rattle.law_refinement.specs.Worlds.{IsWorld, HasMaster, end_for}
use Rattle.law_refinement.specs.Carrying.{connected, dialled_link, put_node}
use Rattle.law_refinement.proofs.Places.{push_here, set_here, some_is}
use Rattle.law_refinement.proofs.Others.{served_end}
use Rattle.law_refinement.proofs.Accepting.{accepts_keep, connects_keep}
use Rattle.mr_world.specs.declared.refusal.Refusal.{Refusal}
use Rattle.mr_world.specs.declared.refusal.Refusal.TheVariants as refusal
use Rattle.mr_world.specs.Accepting.{AcceptCall, Accepted, ConnectCall, Connected}
use Rattle.mr_world.specs.Connecting.{Connects, DialCall, Dialled}
use Rattle.mr_world.proofs.Changing.{node_world, link_comes}
use Rattle.mr_world.proofs.Kept.{apart, between, sound_is, stops_world}

served : false ≡ true → ⊥
served e = cc

-- ---- an end that was opened and taken back
-- the node at which an end was opened is told by what it is behind that
pub opened_once : (a b c : NodeState) (l : LinkId) → Opens a l c → Opens b l c → a ≡ b
opened_once a b c l x y =
    let same : record a { ends = opened_as a.ends l (client []) } ≡ record b { ends = opened_as b.ends l (client []) } = sym x.node ∙ y.node in
    let links = inserted_once a.ends.open_links b.ends.open_links l (client []) x.fresh y.fresh (ap (λ (z : NodeState). z.ends.open_links) same) in
    let count : a.ends.opened ≡ b.ends.opened = sym x.generation ∙ y.generation in
    λ k. record { core = (same k).core; ends = record { open_links = links k; opened = count k }; follow = (same k).follow }

-- .. also where it stops between
pub opened_stopped : (a b : NodeState) (l : LinkId) → Opens a l b → Opens (stopped_as a) l (stopped_as b)
opened_stopped a b l o = record { fresh = o.fresh; generation = o.generation; agrees = record { is = o.agrees.is }; node = ap stopped_as o.node }

other_end : (ends : Links EndState) (l x : LinkId) (e : EndState) → x ≢ l → end_at (opened_as ends l e) x ≡ end_at ends x
other_end ends l x e ne = get-insert ids_total ends.open_links l e x ∙ at_or_other x l (λ b. cond b (Some e) (get ends.open_links x) ≡ get ends.open_links x) (λ same. absurd (ne same)) (λ other. refl)

-- ---- both ends are there
module _ (w : WorldState) (n m : ℕ) (v : WorldState) (is : IsWorld w) (d : Connects w n m v) where
  abbrev link : Link
  link = dialled_link n d.name m d.at d.outs.reply

  abbrev anew : Slot
  anew = record d.dialler { node = d.node; dialled = length w.links }

  opened_world : IsWorld (put_node w m d.server d.served)
  opened_world = between w m d.server d.at d.served is d.running.at d.running.up d.opens

  no_ways : IsWay no_way
  no_ways = record { used_within = omega arith; taken_within = omega arith }

  linked_world : IsWorld (record w { slots = slice_set w.slots m (record d.server { node = d.served }); links = w.links ++ link ∷ [] })
  linked_world = link_comes (put_node w m d.server d.served) link opened_world (record { used_within = omega arith; taken_within = omega arith }) no_ways
      (record { slot = record d.server { node = d.served }; found = set_here w.slots m (record d.server { node = d.served }) d.server d.running.at; agrees = λ u q. (None, d.opens.agrees.is) }) (λ u. absurd (served u))
      (apart w m d.server d.at d.served is d.running.at d.running.up d.opens)

  own_link : (name : LinkId) (f : FollowState) → d.node.follow ≡ Some (name, f) → HasMaster (w.links ++ link ∷ []) n anew name f
  own_link name f e =
      let one = some_is _ (name, f) (sym (ap (λ (z : NodeState). z.follow) d.dials.node) ∙ e) in
      subst (λ (z : LinkId × FollowState). HasMaster (w.links ++ link ∷ []) n anew z.0 z.1) one
      (record { link = link; found = push_here w.links link; caller = refl; agrees = record { by = refl } })

  pub connects_world : IsWorld (connected w n d.dialler d.node d.name d.outs m d.server d.served d.at)
  connects_world = node_world (record w { slots = slice_set w.slots m (record d.server { node = d.served }); links = w.links ++ link ∷ [] }) n d.dialler anew linked_world d.found (record {
    here = λ j y e to up q.
        let served = served_end (record w { slots = slice_set w.slots m (record d.server { node = d.served }); links = w.links ++ link ∷ [] }) linked_world n d.dialler d.found d.up j y e to q in (
          served.0,
          ap (λ (z : NodeState). end_of z y.name) d.dials.node
              ∙ (other_end d.dialler.node.ends d.name y.name upstream (λ same. none-some (end_for y.streams served.0 (unread y.ask)) (sym d.dials.fresh ∙ (ap (end_of d.dialler.node) (sym same) ∙ served.1))) ∙ served.1),
        );
    sound = λ up. d.sound;
    own = λ name f up e. own_link name f e;
  })

pub dial_keeps : (w v : WorldState) (n m : ℕ) (r : Result (Unit {0}) Refusal) → IsWorld w → DialCall w n m v r → IsWorld v
dial_keeps w v n m (Ok done) is c = elim c.1 [
  | Dialled.connects d ↦ subst (λ (z : WorldState). IsWorld z) (sym d.is) (connects_world w n m v is d)
  | Dialled.server_stops b d ↦ subst (λ (z : WorldState). IsWorld z) (sym d.is) (stops_world w m d.slot (stopped_as d.slot.node) is d.running.at refl)
  | Dialled.dialler_stops b d ↦ subst (λ (z : WorldState). IsWorld z) (sym d.is) (stops_world w n d.dialler (stopped_as d.dialler.node) is d.dialling.at refl)
  | Dialled.dialler_rests d e ↦ subst (λ (z : WorldState). IsWorld z) (sym e) is
  | Dialled.server_rests d e ↦ subst (λ (z : WorldState). IsWorld z) (sym e) is
]
dial_keeps w v n m (Err refusal.Memory) is c = subst (λ (z : WorldState). IsWorld z) (sym c.1) is
dial_keeps w v n m (Err refusal.Nobody) is c = subst (λ (z : WorldState). IsWorld z) (sym c.1) is
dial_keeps w v n m (Err refusal.Drawn) is c = absurd c
dial_keeps w v n m (Err refusal.TooMuch) is c = absurd c
dial_keeps w v n m (Err refusal.InputFull) is c = absurd c

-- ---- in two events
pub connect_keeps : (w v : WorldState) (n : ℕ) (r : Result (Unit {0}) Refusal) → IsWorld w → ConnectCall w n v r → IsWorld v
connect_keeps w v n (Ok done) is c = elim c.1 [
  | Connected.opens d ↦ subst (λ (z : WorldState). IsWorld z) (sym d.is) (connects_keep w n d.slot d.name d.node d.outs is d.running d.sound d.dials)
  | Connected.stops d ↦ subst (λ (z : WorldState). IsWorld z) (sym d.is) (stops_world w n d.slot (stopped_as d.slot.node) is d.running.at refl)
  | Connected.rests d e ↦ subst (λ (z : WorldState). IsWorld z) (sym e) is
]
connect_keeps w v n (Err refusal.Nobody) is c = subst (λ (z : WorldState). IsWorld z) (sym c.1) is
connect_keeps w v n (Err refusal.Memory) is c = subst (λ (z : WorldState). IsWorld z) (sym c.2) is
connect_keeps w v n (Err refusal.Drawn) is c = absurd c
connect_keeps w v n (Err refusal.TooMuch) is c = absurd c
connect_keeps w v n (Err refusal.InputFull) is c = absurd c

pub accept_keeps : (w v : WorldState) (l m : ℕ) (r : Result (Unit {0}) Refusal) → IsWorld w → AcceptCall w l m v r → IsWorld v
accept_keeps w v l m (Ok done) is c = elim c.1 [
  | Accepted.accepts d ↦ subst (λ (z : WorldState). IsWorld z) (sym d.is)
      (accepts_keep w l m d.link d.slot d.at d.node is d.waiting d.running (sound_is w m d.slot d.at d.node is d.running.at d.running.up d.opens) d.opens)
  | Accepted.stops d ↦ subst (λ (z : WorldState). IsWorld z) (sym d.is) (stops_world w m d.slot (stopped_as d.slot.node) is d.running.at refl)
  | Accepted.rests d e ↦ subst (λ (z : WorldState). IsWorld z) (sym e) is
]
accept_keeps w v l m (Err refusal.Nobody) is c = subst (λ (z : WorldState). IsWorld z) (sym c.1) is
accept_keeps w v l m (Err refusal.Memory) is c = subst (λ (z : WorldState). IsWorld z) (sym c.2) is
accept_keeps w v l m (Err refusal.Drawn) is c = absurd c
accept_keeps w v l m (Err refusal.TooMuch) is c = absurd c
accept_keeps w v l m (Err refusal.InputFull) is c = absurd c
