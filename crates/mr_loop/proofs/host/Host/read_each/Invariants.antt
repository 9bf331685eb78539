use Rattle.mr_loop.proofs.Rounds.{InReads}
use Rattle.mr_loop.proofs.host.Host.read_each.Given as goal

abbrev pub invariant-loop-index : goal.invariant-loop-index
invariant-loop-index g l = InReads g.W.Wire.tells g.W.Wire.links g.W.Wire.failures g.W.Wire.waited g.F.LogFile.failures g.F.LogFile.told g.F.LogFile.synced g.S.Source.drawn l.more l.fn.self l.self
