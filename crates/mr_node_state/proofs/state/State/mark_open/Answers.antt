use Rattle.std.proofs.Common.{subst, sym}
use Rattle.mr_node_links.specs.Parts.{HasOpen}
use Rattle.mr_node_spec.specs.State.{NodeState}
use Rattle.mr_node_state.specs.Parts.{node_of}
use Rattle.mr_node_state.proofs.Waiting.{marks_node}
use Rattle.mr_node_state.proofs.state.State.mark_open.Goals as goal

pub invariant_of-self : goal.invariant_of-self
invariant_of-self c =
    let i = c.self.inside in
    marks_node (node_of i.up i.port i.upstream i.mark i.course i.held i.ends) c.args.link c.args.count c.mark.new.self c.self.invariant (subst (λ (s : NodeState). HasOpen s.ends c.args.link c.args.count) (sym c.self.view_is) c.requires) c.mark.ensures
