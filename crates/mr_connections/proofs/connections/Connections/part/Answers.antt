use Rattle.std.proofs.Common.{◌∙◌}
use Rattle.mr_connections.specs.State.{left}
use Rattle.mr_connections.proofs.Listed.{linked_not}
use Rattle.mr_connections.proofs.Sent.{linked-none, linked-one}
use Rattle.mr_connections.proofs.connections.Connections.part.Goals as goal

pub returns-in_default : goal.returns-in_default
returns-in_default c = linked-none c.args.link left c.args.self.now c.in_default.ensures.none

pub leave-requires : goal.leave-requires
leave-requires c = linked_not c.args.self.now c.in-Some.socket c.args.link c.in-Some.ensures.some

pub returns : goal.returns
returns c = c.note.ensures ∙ (c.leave.ensures ∙ linked-one c.args.link left c.args.self.now c.in-Some.socket c.in-Some.ensures.some c.socket_of.ensures.apart)
