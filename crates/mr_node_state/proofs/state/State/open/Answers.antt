use Rattle.mr_node_state.specs.Parts.{node_of}
use Rattle.mr_node_state.proofs.Changes.{opens_node, opens_row}
use Rattle.mr_node_state.proofs.state.State.open.Goals as goal

pub invariant_of-self : goal.invariant_of-self
invariant_of-self c =
    let i = c.self.inside in
    opens_node (node_of i.up i.port i.upstream i.mark i.course i.held i.ends) c.open.new.self c.open.result c.self.invariant c.open.ensures.fresh c.open.ensures.opens c.open.ensures.err

pub returns-clause-ok : goal.returns-clause-ok
returns-clause-ok c =
    let i = c.self.inside in
    opens_row (node_of i.up i.port i.upstream i.mark i.course i.held i.ends) c.args.self.now c.open.new.self c.open.result c.self.view_is c.open.ensures.fresh c.open.ensures.generation c.open.ensures.opens
