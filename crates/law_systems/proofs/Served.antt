-- The World beside servers behind a step of one of them at an end that its node serves.
use Rattle.std.proofs.Common.{◌≡◌, inl, ℕ, List, true, length, refl, sym, ap, subst, ◌∙◌}
use Rattle.std.specs.Prelude.{slice_get}
use Rattle.mr_links.specs.declared.link_id.LinkId.{LinkId}
use Rattle.mr_data.specs.declared.given.Given.{Given}
use Rattle.mr_node_output.specs.Outs.{OutsState, outs_of}
use Rattle.mr_node_spec.specs.State.{NodeState}
use Rattle.mr_loop.specs.Stage.{Stage}
use Rattle.mr_loop.specs.Carrying.{Carried}
use Rattle.mr_loop.specs.Causes.{StepsAt, at_step}
use Rattle.mr_loop.specs.Rows.{Acts, acts}
use Rattle.law_refinement.specs.State.{Link, Slot, WorldState}
use Rattle.law_refinement.specs.Carrying.{behind, put_node, stepped}
use Rattle.law_refinement.specs.Events.{IsRunning}
use Rattle.law_refinement.proofs.Places.{set_here}
use Rattle.mr_links.specs.declared.side.Side.TheVariants as side
use Rattle.mr_world_parts.proofs.Places.{set_twice}
use Rattle.law_systems.specs.System.{System, is_taken, runs}
use Rattle.law_systems.proofs.Wired.{IsWired}
use Rattle.law_systems.proofs.Mirrors.{IsTurn, Leads, Mirrors}
use Rattle.law_systems.proofs.Rebuilding.{rebuilt}
use Rattle.law_systems.proofs.Parting.{carried_node, closed_behind}
use Rattle.law_systems.proofs.Finding.{IsOpenAt, StandsAt}
use Rattle.law_systems.proofs.Closings.{RunsTo, closes_behind, leads_to, runs_as, runs_more}
use Rattle.law_systems.proofs.Booked.{booked_ids}
use Rattle.law_systems.proofs.Reached.{as_many_told, lines_told, others_told}
use Rattle.law_systems.proofs.Ends.{all_none}
use Rattle.law_systems.proofs.Serving.{it_answers, live_now}

module _ (x y : System) (w : WorldState) (n life : ℕ) (s t : Stage) (socket link : LinkId) (given : Given) (fresh : List ℕ) (news : _) (outs : OutsState)
    (wired : IsWired x) (mirrors : Mirrors x w) (turn : IsTurn x n life s (acts (at_step socket link given fresh news) outs) t y)
    (called : Stage) (calls : StepsAt socket link given fresh news s called outs)
    (stands : StandsAt w n s) (found : IsOpenAt x w n life s stands.slot socket link side.Server) (carried : Carried (outs_of outs) called t) where
  abbrev a : Slot
  a = stands.slot

  abbrev b : NodeState
  b = called.node

  abbrev k : Link
  k = found.named.link

  abbrev u : WorldState
  u = stepped w n a found.number k b outs

  abbrev new : Slot
  new = record (behind a b outs) { node = t.node }

  abbrev z : WorldState
  z = put_node u n (behind a b outs) t.node

  runs_there : RunsTo w z
  runs_there =
      let it = it_answers x w n life s socket link given fresh news outs wired mirrors turn.at turn.new.0 called calls stands found in
      let running : IsRunning u n (behind a b outs) = record { at = set_here w.slots n (behind a b outs) a stands.running.at; up = it.behind_it.up } in
      runs_more w u z it.moves
      (runs_as u (put_node u n (behind a b outs) (closed_behind outs b)) z (ap (put_node u n (behind a b outs)) (sym (carried_node outs called t carried)))
      (closes_behind n outs u (behind a b outs) it.moves.1 running calls.stepped.sound (all_none a.node link b outs it.behind_it it.settled)))

  same : y.connections ≡ x.connections
  same = ap (λ (e : System). e.connections) turn.is ∙ turn.goes

  beside : Mirrors y z
  beside = rebuilt x y w z n life s t (runs t) a new mirrors turn.at (ap (λ (e : System). e.servers) turn.is) (inl refl) runs_there.world stands.running.at
      (set_twice w.slots n (behind a b outs) new) refl (λ r. refl) refl
      (as_many_told x w n found.number k b outs mirrors found.named.at.found found.named.to ∙ ap (λ e. length e) (sym same))
      (λ id e. subst (λ ids. is_taken ids id ≡ true) (sym (ap (λ (d : System). d.ids) turn.is)) (booked_ids w.book x.ids mirrors.ids a.node outs id e))
      (λ i p l e h. lines_told x w n found.number k b outs mirrors found.named.at.found found.named.to i p l (ap (λ d. slice_get d i) (sym same) ∙ e) h)
      (λ i at p e l end h apart. others_told x w n found.number k b outs mirrors found.named.at.found found.named.to i at p e l
      (record { found = ap (λ d. slice_get d i) (sym same) ∙ end.found; has = end.has }) h apart)
      (λ i at p q l held r end h there. live_now x w n life s socket link given fresh news outs wired mirrors turn.at turn.new.0 called calls stands found t carried i at p q l held
      (record { found = ap (λ d. slice_get d i) (sym same) ∙ end.found; has = end.has }) h there)

  -- **What a step at such an end gives out is carried in the World as it is by the loop.**
  pub acts_served : Leads w y
  acts_served = leads_to w z y runs_there beside

pub acts_at_served : (x y : System) (w : WorldState) (n life : ℕ) (s t : Stage) (socket link : LinkId) (given : Given) (fresh : List ℕ) (news : _) (outs : OutsState) → IsWired x → Mirrors x w
    → IsTurn x n life s (acts (at_step socket link given fresh news) outs) t y → Acts (at_step socket link given fresh news) outs s t
    → (stands : StandsAt w n s) → IsOpenAt x w n life s stands.slot socket link side.Server → Leads w y
acts_at_served x y w n life s t socket link given fresh news outs wired mirrors turn h stands found =
    acts_served x y w n life s t socket link given fresh news outs wired mirrors turn h.called h.calls stands found h.carried
