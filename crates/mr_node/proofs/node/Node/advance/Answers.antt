use Rattle.std.proofs.Common.{subst}
use Rattle.mr_links.specs.Links.{Links}
use Rattle.mr_node_links.specs.State.{EndState}
use Rattle.mr_node_links.specs.Replicas.{Lists}
use Rattle.mr_node_spec.specs.State.{NodeState}
use Rattle.mr_node.specs.Parts.{Uses}
use Rattle.mr_node.proofs.Ends.{uses_of}
use Rattle.mr_node.proofs.node.Node.advance.Goals as goal

pub returns : goal.returns
returns c =
    let names = c.replicas.result.now in
    subst (λ (s : NodeState). Uses s c.args.link c.args.used c.take.new.self) c.self.view_is
    (uses_of c.self.inside.state c.take.new.self c.args.link c.args.used names c.ends.ensures.node (subst (λ (e : Links EndState). Lists names e.open_links) c.ends.ensures.ends c.replicas.ensures) c.take.ensures.uses c.take.ensures.only)
