use Rattle.std.proofs.Common.{◌∙◌, ap, subst, sym}
use Rattle.mr_node_links.specs.Parts.{IsClient}
use Rattle.mr_node_spec.specs.State.{NodeState}
use Rattle.mr_node_state.specs.Parts.{node_of}
use Rattle.mr_node_state.proofs.Changes.{turned_node}
use Rattle.mr_node_state.proofs.state.State.stream_to.Goals as goal

pub invariant_of-self : goal.invariant_of-self
invariant_of-self c =
    let i = c.self.inside in
    turned_node (node_of i.up i.port i.upstream i.mark i.course i.held i.ends) c.args.link c.args.count c.turn.new.self c.turn.result c.self.invariant
    (subst (λ (s : NodeState). IsClient s.ends c.args.link c.args.count) (sym c.self.view_is) c.requires.client) (ap (λ (s : NodeState). s.core.master) c.self.view_is ∙ c.requires.master) c.turn.ensures.ok c.turn.ensures.err
