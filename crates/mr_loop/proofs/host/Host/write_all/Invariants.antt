use Rattle.mr_loop.proofs.Writes.{HasWritten}
use Rattle.mr_loop.proofs.host.Host.write_all.Given as goal

abbrev pub invariant-loop-index : goal.invariant-loop-index
invariant-loop-index g l = HasWritten g.W.Wire.tells g.W.Wire.links g.W.Wire.failures g.W.Wire.waited g.F.LogFile.failures g.F.LogFile.told g.F.LogFile.synced g.S.Source.drawn l.fn.self l.self
