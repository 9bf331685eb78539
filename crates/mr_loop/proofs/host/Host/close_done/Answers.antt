use Rattle.std.proofs.Common.{◌≡◌, ◌+◌, ap, arith, is_some}
use Rattle.std.specs.FinMap.{len, remove}
use Rattle.mr_connections.proofs.Listed.{len_without}
use Rattle.mr_loop.proofs.Writes.{closed_first, closed_on}
use Rattle.mr_loop.proofs.host.Host.close_done.Goals as goal

pub loop-socket-init : goal.loop-socket-init
loop-socket-init g c = closed_first g.W.Wire.tells g.W.Wire.links g.W.Wire.failures g.W.Wire.waited g.F.LogFile.failures g.F.LogFile.told g.F.LogFile.synced g.S.Source.drawn c.args.self.now

pub loop-socket-smaller : goal.loop-socket-smaller
loop-socket-smaller g c =
    let before = c.loop-socket.self.own.now.connections in let behind = c.drop_connection.new.self.own.now.connections in
    let left : len behind ≡ len (remove before c.in-Some.socket) = ap len c.drop_connection.ensures.dropped.connections in
    let one : len before ≡ len (remove before c.in-Some.socket) + 1 = len_without before c.in-Some.socket (ap is_some c.in-Some.ensures.some) in
    omega (arith, left, one)

pub loop-socket-preserved : goal.loop-socket-preserved
loop-socket-preserved g c =
    closed_on g.W.Wire.tells g.W.Wire.links g.W.Wire.failures g.W.Wire.waited g.F.LogFile.failures g.F.LogFile.told g.F.LogFile.synced g.S.Source.drawn c.args.self.now c.loop-socket.self c.drop_connection.new.self c.in-Some.socket c.loop-socket.invariant c.in-Some.ensures.some
    c.drop_connection.ensures.dropped c.drop_connection.ensures.moment c.drop_connection.ensures.same
