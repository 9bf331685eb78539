use Rattle.std.proofs.Common.{subst, sym}
use Rattle.mr_node_links.specs.Parts.{HasAhead}
use Rattle.mr_node_spec.specs.State.{NodeState}
use Rattle.mr_node_state.specs.Parts.{node_of}
use Rattle.mr_node_state.proofs.Changes.{used_node}
use Rattle.mr_node_state.proofs.state.State.take.Goals as goal

pub invariant_of-self : goal.invariant_of-self
invariant_of-self c =
    let i = c.self.inside in
    used_node (node_of i.up i.port i.upstream i.mark i.course i.held i.ends) c.args.link c.args.count c.take.new.self c.self.invariant
    (subst (λ (s : NodeState). HasAhead s.ends c.args.link c.args.count) (sym c.self.view_is) c.requires) c.take.ensures
