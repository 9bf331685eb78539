use Rattle.std.proofs.Common.{subst, sym, ◌∙◌}
use Rattle.mr_resp.specs.Replies.{Tree}
use Rattle.mr_node_spec.specs.State.{NodeState}
use Rattle.mr_node_spec.specs.Served.{says}
use Rattle.mr_node.specs.Parts.{Keeps}
use Rattle.mr_node.specs.Steps.{ClientStep, step_of}
use Rattle.mr_node.proofs.node.Node.introduce.Goals.{then-is_ok, else-is_ok}
use Rattle.mr_node.proofs.node.Node.introduce.Goals as goal

pub returns : goal.returns
returns c = λ u given fresh at k.
    let a = c.args.self.now in
    let told = subst (λ (t : Tree). Keeps a.core u c.args.used (says t)) (sym c.done.ensures) k in
    let row = c.say-answered.ensures u given fresh at told in
    elim c.if-is_ok.branch [
      | then-is_ok w ↦ subst (λ (s : NodeState). ClientStep a c.args.link u given fresh s (step_of c.say-answered.new.outs c.say-answered.result)) (sym (w.self-is ∙ (w.introduce.ensures ∙ w.self.view_is))) row
      | else-is_ok w ↦ subst (λ (s : NodeState). ClientStep a c.args.link u given fresh s (step_of c.say-answered.new.outs c.say-answered.result)) (sym w.self-is) row
    ]
