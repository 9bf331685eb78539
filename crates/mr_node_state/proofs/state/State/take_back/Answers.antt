use Rattle.mr_node_state.specs.Parts.{node_of}
use Rattle.mr_node_state.proofs.Changes.{taken_back_node, taken_back_row}
use Rattle.mr_node_state.proofs.state.State.take_back.Goals as goal

pub invariant_of-self : goal.invariant_of-self
invariant_of-self c =
    let i = c.self.inside in
    taken_back_node (node_of i.up i.port i.upstream i.mark i.course i.held i.ends) c.args.link c.take_back.new.self c.self.invariant c.take_back.ensures.fresh c.take_back.ensures.opens

pub returns : goal.returns
returns c =
    let i = c.self.inside in
    taken_back_row (node_of i.up i.port i.upstream i.mark i.course i.held i.ends) c.args.self.now c.args.link c.take_back.new.self c.self.view_is c.requires.open c.take_back.ensures.fresh c.take_back.ensures.generation c.take_back.ensures.opens
