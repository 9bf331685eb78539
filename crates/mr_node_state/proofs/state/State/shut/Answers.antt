use Rattle.std.proofs.Common.{◌∙◌, ap}
use Rattle.mr_node_links.specs.State.{end_at}
use Rattle.mr_node_spec.specs.State.{NodeState}
use Rattle.mr_node_state.specs.Parts.{node_of}
use Rattle.mr_node_state.proofs.Changes.{shut_node}
use Rattle.mr_node_state.proofs.state.State.shut.Goals as goal

pub invariant_of-self : goal.invariant_of-self
invariant_of-self c =
    let i = c.self.inside in
    shut_node (node_of i.up i.port i.upstream i.mark i.course i.held i.ends) c.args.link c.requires.0 c.shut.new.self c.self.invariant
    (ap (λ (s : NodeState). end_at s.ends c.args.link) c.self.view_is ∙ c.requires.1) c.requires.2 c.shut.ensures
