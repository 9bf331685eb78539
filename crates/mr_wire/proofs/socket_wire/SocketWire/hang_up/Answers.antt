use Rattle.std.proofs.Common.{sym}
use Rattle.mr_wire.proofs.Places.{links_same}
use Rattle.mr_wire.proofs.socket_wire.SocketWire.hang_up.Goals as goal

pub returns-in-Some-clause-links : goal.returns-in-Some-clause-links
returns-in-Some-clause-links c = links_same c.args.self.now.links c.args.link c.in-Some.connection.now c.hang_up.new.self c.hang_up.ensures (sym c.in-Some.ensures.value)
