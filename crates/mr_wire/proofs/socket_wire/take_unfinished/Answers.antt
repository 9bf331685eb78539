use Rattle.std.proofs.Common.{sym}
use Rattle.mr_wire.proofs.Places.{links_same}
use Rattle.mr_wire.proofs.socket_wire.take_unfinished.Goals as goal

pub returns-in-Some : goal.returns-in-Some
returns-in-Some c = links_same c.args.links.now c.args.link c.in-Some.connection.now c.take_unfinished.new.self c.take_unfinished.ensures (sym c.in-Some.ensures.value)
