use Rattle.std.specs.FinMap.{len}
use Rattle.mr_loop.proofs.Writes.{HasClosed}
use Rattle.mr_loop.proofs.host.Host.close_done.Given as goal

abbrev pub invariant-loop-socket : goal.invariant-loop-socket
invariant-loop-socket g l = HasClosed g.W.Wire.tells g.W.Wire.links g.W.Wire.failures g.W.Wire.waited g.F.LogFile.failures g.F.LogFile.told g.F.LogFile.synced g.S.Source.drawn l.fn.self l.self

-- each that is closed leaves one less
abbrev pub decreases-loop-socket : goal.decreases-loop-socket
decreases-loop-socket g l = len l.self.own.now.connections
