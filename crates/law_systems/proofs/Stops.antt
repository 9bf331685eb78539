-- A node that stops: whatever it was at, no end of its server is read or written any more, and a World has an event for it.
use Rattle.std.proofs.Common.{◌≡◌, inr, ℕ, List, true, false, Err, refl, sym, ap, subst, ◌∙◌}
use Rattle.mr_links.specs.declared.link_id.LinkId.{LinkId}
use Rattle.mr_data.specs.declared.given.Given.{Given}
use Rattle.mr_node_spec.specs.State.{NodeState}
use Rattle.mr_node.specs.Calls.{Agreeing, OpensNoMore}
use Rattle.mr_node.specs.Steps.{Steps}
use Rattle.mr_node.specs.declared.fault.NodeFault.TheVariants as refusal
use Rattle.mr_replication.specs.State.{name_of}
use Rattle.mr_loop.specs.Stage.{Stage}
use Rattle.mr_loop.specs.Causes.{HasInput, Stop, Stopping, stops_at_open, stops_at_step, stops_at_tick, was_down}
use Rattle.mr_loop.specs.Rows.{IsStopped, stops}
use Rattle.law_protocol.specs.Event as events
use Rattle.law_refinement.specs.State.{WorldState}
use Rattle.law_refinement.specs.Worlds.{IsWorld}
use Rattle.law_refinement.specs.Carrying.{put_node}
use Rattle.law_refinement.proofs.Linking.{open_stops}
use Rattle.law_refinement.specs.Runs.{Happens, an_event}
use Rattle.mr_world.proofs.Kept.{stops_world}
use Rattle.law_systems.specs.System.{System, gives_up, is_taken}
use Rattle.law_systems.proofs.Wired.{IsWired}
use Rattle.law_systems.proofs.Mirrors.{IsTurn, Leads, Mirrors}
use Rattle.law_systems.proofs.Rebuilding.{rebuilt_still}
use Rattle.law_systems.proofs.Finding.{StandsAt, stands_at}
use Rattle.law_systems.proofs.Closings.{leads_to, runs_more, runs_none}
use Rattle.law_systems.proofs.Apart.{no_turns}

-- ---- it is down from then on
not_up : (a : NodeState) → a.core.up ≡ true → a.core.up ≡ false → ⊥
not_up a up down = let wrong : true ≡ false = sym up ∙ down in cc

step_stops : (a b : NodeState) (link : LinkId) (given : Given) (fresh : List ℕ) → HasInput a link → Steps a link given fresh b (Err refusal.Stopped) → b.core.up ≡ false
step_stops a b link given fresh input row = elim input.unread.agree [
  | Agreeing.client g ↦ ap (λ (z : NodeState). z.core.up) (row.at_client input.unread.bytes (record { up = input.unread.up; agrees = g })).spent
  | Agreeing.waiting t g ↦ ap (λ (z : NodeState). z.core.up) (row.at_waiting t input.unread.bytes (record { up = input.unread.up; agrees = g })).spent
  | Agreeing.replica g ↦ absurd (row.at_replica input.unread.bytes (record { up = input.unread.up; agrees = g }))
  | Agreeing.master g ↦ ap (λ (z : NodeState). z.core.up) (row.at_master input.unread.up (ap name_of g.found)).node
  | Agreeing.shut g nothing ↦ absurd (let wrong = (row.at_shut input.unread.up g).0 in cc)
]

open_stops_it : (a b : NodeState) → a.core.up ≡ true → OpensNoMore a b → b.core.up ≡ false
open_stops_it a b up (OpensNoMore.down down same) = absurd (not_up a up down)
open_stops_it a b up (OpensNoMore.spent was many e) = ap (λ (z : NodeState). z.core.up) e

stops_down : (stop : Stop) (a b : NodeState) → a.core.up ≡ true → Stopping stop a b → b.core.up ≡ false
stops_down (stops_at_step link given fresh) a b up h = step_stops a b link given fresh h.input h.row
stops_down (stops_at_tick given) a b up h = absurd (not_up a up h.0)
stops_down stops_at_open a b up h = open_stops_it a b up h
stops_down was_down a b up h = absurd (not_up a up h.0)

-- ---- the World goes on with the node as it is
module _ (w : WorldState) (n : ℕ) (s : Stage) (stands : StandsAt w n s) (b : NodeState) (is : IsWorld w) (down : b.core.up ≡ false) where
  pub stops_there : Happens w (put_node w n stands.slot b) × IsWorld (put_node w n stands.slot b)
  stops_there = (
    an_event (events.Event.Client n) (λ book holds. open_stops w book n stands.slot b holds stands.running down),
    stops_world w n stands.slot b is stands.running.at down,
  )

-- behind a fault no turns are made

-- **Where a node stops its server gives up.**
pub stopped : (x y : System) (w : WorldState) (n life : ℕ) (s t : Stage) (stop : Stop) → IsWired x → Mirrors x w → IsTurn x n life s (stops stop) t y → IsStopped stop s t → Leads w y
stopped x y w n life s t stop wired mirrors turn h =
    let stands = stands_at x w n life s wired mirrors turn.at in
    let down = stops_down stop s.node t.node (wired.kept n life s turn.at).up h.why in
    let moves = stops_there w n s stands t.node mirrors.world down in
    let v = put_node w n stands.slot t.node in
    leads_to w v y (runs_more w v v moves (runs_none v moves.1))
    (rebuilt_still x y w v n life s t (gives_up t) stands.slot (record stands.slot { node = t.node }) mirrors turn.at (ap (λ (e : System). e.servers) turn.is) (inr refl) moves.1 stands.running.at refl refl
    (λ r. refl) refl (ap (λ (e : System). e.connections) turn.is ∙ turn.goes) refl
    (λ id e. subst (λ d. is_taken d id ≡ true) (sym (ap (λ (e : System). e.ids) turn.is)) (mirrors.ids id e))
    (λ c at k socket l held r. absurd (no_turns t t r)))
