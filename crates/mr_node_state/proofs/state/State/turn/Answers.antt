use Rattle.std.proofs.Common.{Some}
use Rattle.mr_node_state.proofs.Changes.{turns_node}
use Rattle.mr_node_state.proofs.Nodes.{has_followed}
use Rattle.mr_node_state.proofs.state.State.turn.Goals as goal

pub invariant_of-self : goal.invariant_of-self
invariant_of-self c =
    let i = c.self.inside in
    turns_node i.up i.port i.upstream i.mark i.course i.held i.ends c.self.invariant (Some c.args.address) c.leave.new.self c.name.result c.shut_one.new.ends c.leave.ensures c.name.ensures.value c.shut_one.ensures

pub shut_one-requires : goal.shut_one-requires
shut_one-requires c = has_followed c.self.inside.ends c.self.inside.course.follow c.name.result c.self.invariant.followed c.name.ensures.value
