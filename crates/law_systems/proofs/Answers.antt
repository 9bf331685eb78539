-- The World's event of a step that used something, at an end that the node serves.
use Rattle.std.proofs.Common.{◌≡◌, inl, ℕ, List, Bool, true, false, Option, None, Some, Ok, refl, sym, ap, subst, ◌∙◌}
use Rattle.std.specs.Prelude.{slice_get}
use Rattle.mr_links.specs.declared.link_id.LinkId.{LinkId}
use Rattle.mr_data.specs.declared.given.Given.{Given}
use Rattle.mr_node_links.specs.State.{Transaction}
use Rattle.mr_node_output.specs.Outs.{OutsState}
use Rattle.mr_node_spec.specs.State.{NodeState, end_of}
use Rattle.mr_node_spec.specs.Sound.{IsSound}
use Rattle.mr_node.specs.Steps.{Steps}
use Rattle.mr_node.specs.declared.step.Step.TheVariants as step
use Rattle.law_refinement.specs.Way.{unread}
use Rattle.law_refinement.specs.State.{Link, Slot, WorldState}
use Rattle.law_refinement.specs.Worlds.{IsWorld, end_for}
use Rattle.law_refinement.specs.Carrying.{behind, stepped}
use Rattle.law_refinement.specs.Events.{IsRunning, IsServed}
use Rattle.law_refinement.proofs.Places.{set_here}
use Rattle.law_refinement.specs.Runs.{Happens}
use Rattle.mr_world_parts.specs.AtNode.{is_spent}
use Rattle.mr_world_parts.specs.Answering.{IsBehind}
use Rattle.mr_links.specs.declared.side.Side.TheVariants as side
use Rattle.mr_world.specs.declared.event.Event.TheVariants as event
use Rattle.mr_world.specs.Serving.{ServedRow, ServesLink}
use Rattle.mr_world.proofs.Feeding.{its_end}
use Rattle.mr_world.proofs.Served.{client_behind, replica_behind, within_behind}
use Rattle.law_servers.specs.Calling.{step as stepping}
use Rattle.law_servers.specs.Worlds.{Becomes, IsServedAs}
use Rattle.law_servers.proofs.Moving.{servers_keep_worlds}
use Rattle.law_systems.proofs.Beside.{Settled, client_settled, replica_settled, within_settled}

-- The World goes on so, and the node is as the outs tell.
pub record Answers (w : WorldState) (n : ℕ) (a : Slot) (name : LinkId) (l : ℕ) (k : Link) (b : NodeState) (outs : OutsState) : Type 0 where
  pub moves : Happens w (stepped w n a l k b outs) × IsWorld (stepped w n a l k b outs)
  pub behind_it : IsBehind b name outs
  pub settled : Settled a.node name b outs

module _ (w : WorldState) (n : ℕ) (a : Slot) (name : LinkId) (l : ℕ) (is : IsWorld w) (running : IsRunning w n a) (end : IsServedAs w n name l) where
  abbrev k : Link
  k = end.link

  pub served : IsServed w l k a
  served = record { found = end.at.found; serving = end.at.serving; at = ap (slice_get w.slots) end.to ∙ running.at; up = running.up }

  module _ (given : Given) (fresh : List ℕ) (b : NodeState) (outs : OutsState) (new : is_spent w.book fresh ≡ false) (sound : IsSound b)
      (row : Steps a.node name given fresh b (Ok (step.Done outs))) where
    row_there : Steps a.node k.name given fresh b (Ok (step.Done outs))
    row_there = subst (λ z. Steps a.node z given fresh b (Ok (step.Done outs))) (sym end.named) row

    its_row : ServedRow k a.node given fresh b outs
    its_row = go k.streams (its_end w l k a is served).0 refl (its_end w l k a is served).1
      where
        go : (c : Bool) (held : Option Transaction) → k.streams ≡ c → end_of a.node k.name ≡ Some (end_for c held (unread k.ask)) → ServedRow k a.node given fresh b outs
        go true held q e = ServedRow.replica q (row_there.at_replica (unread k.ask) (record { up = running.up; agrees = record { is = e } }))
        go false None q e = ServedRow.client q (record { is = e }) (row_there.at_client (unread k.ask) (record { up = running.up; agrees = record { is = e } }))
        go false (Some t) q e = ServedRow.within t q (record { is = e }) (row_there.at_waiting t (unread k.ask) (record { up = running.up; agrees = record { is = e } }))

    known : ServedRow k a.node given fresh b outs → IsBehind b k.name outs × Settled a.node k.name b outs
    known (ServedRow.client q agrees r) = (
      client_behind a.node b k.name (unread k.ask) outs agrees.is (is.nodes n a running.at running.up).node.followed given fresh r,
      client_settled a.node b k.name outs (unread k.ask) given fresh (is.nodes n a running.at running.up).node r,
    )
    known (ServedRow.within t q agrees r) = (
      within_behind a.node b k.name (unread k.ask) outs t agrees.is given r,
      within_settled a.node b k.name outs t (unread k.ask) given r,
    )
    known (ServedRow.replica q r) = (replica_behind a.node b k.name (unread k.ask) outs r, replica_settled a.node b k.name outs (unread k.ask) r)

    moves_on : Happens w (stepped w n a l k b outs) × IsWorld (stepped w n a l k b outs)
    moves_on = servers_keep_worlds w (stepped w n a l k b outs) is (inl (record {
      number = n;
      slot = a;
      running = running;
      call = stepping name given fresh (Ok (step.Done outs));
      node = b;
      sound = sound;
      is = row;
      becomes = Becomes.by_event (event.Step l side.Server given fresh) (l, side.Server, end, new, refl)
          (new, ServesLink.carries (record { link = k; slot = a; served = served; node = b; outs = outs; row = its_row; sound = sound }) (ap (λ i. stepped w i a l k b outs) (sym end.to)))
          (record { slot = behind a b outs; there = set_here w.slots n (behind a b outs) a running.at; is = refl });
    }))

    pub answers : Answers w n a name l k b outs
    answers = record {
      moves = moves_on;
      behind_it = subst (λ z. IsBehind b z outs) end.named (known its_row).0;
      settled = subst (λ z. Settled a.node z b outs) end.named (known its_row).1;
    }
