use Rattle.std.proofs.Common.{length}
use Rattle.mr_loop.specs.Writing.{waiting_at}
use Rattle.mr_loop.proofs.Writes.{WritesOn}
use Rattle.mr_loop.proofs.host.Host.write_ready.Given as goal

abbrev pub invariant-loop : goal.invariant-loop
invariant-loop g l = WritesOn g.W.Wire.tells g.W.Wire.links g.W.Wire.failures g.W.Wire.waited g.F.LogFile.failures g.F.LogFile.told g.F.LogFile.synced g.S.Source.drawn l.fn.socket l.fn.link l.fn.self l.self

abbrev pub decreases-loop : goal.decreases-loop
decreases-loop g l = length (waiting_at l.self.own.now l.fn.socket)
