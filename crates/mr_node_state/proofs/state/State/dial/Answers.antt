use Rattle.std.proofs.Common.{◌∙◌, ap}
use Rattle.mr_node_spec.specs.State.{NodeState}
use Rattle.mr_node_state.proofs.Changes.{dials_node}
use Rattle.mr_node_state.proofs.state.State.dial.Goals as goal

pub invariant_of-self-2 : goal.invariant_of-self-2
invariant_of-self-2 c =
    let i = c.self.inside in
    dials_node i.up i.port i.upstream i.mark i.course i.held i.ends c.self.invariant c.in_ok-link.link c.dial-2.new.self c.dial.new.self
    (ap (λ (s : NodeState). s.follow) c.self.view_is ∙ c.requires.alone) (ap (λ (s : NodeState). s.core.master) c.self.view_is ∙ c.requires.replica) c.dial-2.ensures c.in_ok-link.ensures.opens
