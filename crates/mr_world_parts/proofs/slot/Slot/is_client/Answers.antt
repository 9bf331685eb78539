use Rattle.std.proofs.Common.{ap, sym, subst}
use Rattle.mr_node_spec.specs.State.{NodeState}
use Rattle.mr_node.specs.Calls.{IsClients}
use Rattle.law_refinement.specs.State.{Slot}
use Rattle.mr_world_parts.proofs.slot.Slot.is_client.Goals as goal

pub returns : goal.returns
returns c =
    let same = ap (λ (z : Slot). z.node) c.self.view_is in
    (λ t. subst (λ (z : NodeState). IsClients z c.args.name) same (c.is_client.ensures.0 t), λ i. c.is_client.ensures.1 (subst (λ (z : NodeState). IsClients z c.args.name) (sym same) i))
