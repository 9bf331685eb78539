use Rattle.mr_node_state.specs.Parts.{node_of}
use Rattle.mr_node_state.proofs.Waiting.{taken_out_node}
use Rattle.mr_node_state.proofs.state.State.take_out.Goals as goal

pub invariant_of-self : goal.invariant_of-self
invariant_of-self c =
    let i = c.self.inside in
    taken_out_node (node_of i.up i.port i.upstream i.mark i.course i.held i.ends) c.args.link c.take_out.result c.take_out.new.self c.self.invariant c.take_out.ensures
