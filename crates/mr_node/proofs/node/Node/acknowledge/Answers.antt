use Rattle.std.proofs.Common.{refl, subst, ◌∙◌}
use Rattle.mr_node_output.specs.Outs.{no_output}
use Rattle.mr_node_spec.specs.State.{NodeState}
use Rattle.mr_node.specs.Parts.{Uses}
use Rattle.mr_node.proofs.Rows.{keep_row}
use Rattle.mr_node.proofs.node.Node.acknowledge.Goals as goal

pub returns : goal.returns
returns c = λ u given fresh at k.
    let a = c.args.self.now in let b = c.advance.new.self in
    keep_row a b c.args.link u given fresh c.args.used no_output at k refl (subst (λ (s : NodeState). Uses s c.args.link c.args.used b) (c.acknowledge.ensures ∙ c.self.view_is) c.advance.ensures)
