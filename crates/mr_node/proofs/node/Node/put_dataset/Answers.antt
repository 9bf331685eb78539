use Rattle.std.proofs.Common.{subst}
use Rattle.mr_data.specs.Rebuilding.{rebuilding}
use Rattle.mr_node_spec.specs.State.{NodeState}
use Rattle.mr_node_spec.specs.Growing.{Remakes}
use Rattle.mr_node.proofs.Rows.{remakes_of}
use Rattle.mr_node.proofs.node.Node.put_dataset.Goals as goal

pub returns-clause-remakes : goal.returns-clause-remakes
returns-clause-remakes c =
    let copy = c.in_ok-text.ensures.text in
    subst (λ (s : NodeState). Remakes (rebuilding s.core.held) s.core.held) c.self.view_is (remakes_of c.self.inside.state.core.held copy.again copy.short)
