use Rattle.std.proofs.Common.{length, subst, sym}
use Rattle.mr_node_links.specs.Parts.{HasRoom}
use Rattle.mr_node_spec.specs.State.{NodeState}
use Rattle.mr_node_state.specs.Parts.{node_of}
use Rattle.mr_node_state.proofs.Changes.{heard_node}
use Rattle.mr_node_state.proofs.state.State.hear.Goals as goal

pub invariant_of-self : goal.invariant_of-self
invariant_of-self c =
    let i = c.self.inside in
    heard_node (node_of i.up i.port i.upstream i.mark i.course i.held i.ends) c.args.link c.args.bytes.now c.hear.new.self c.hear.result c.self.invariant
    (subst (λ (s : NodeState). HasRoom s.ends c.args.link (length c.args.bytes.now)) (sym c.self.view_is) c.requires) c.hear.ensures.ok c.hear.ensures.err
