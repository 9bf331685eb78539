use Rattle.mr_loop.specs.Going.{StaysAs}
use Rattle.mr_loop.specs.Hosts.{IsSame}
use Rattle.mr_loop.proofs.host.Host.gather.Given as goal

abbrev pub invariant-loop : goal.invariant-loop
invariant-loop g l = StaysAs g.W.Wire.tells g.W.Wire.links g.W.Wire.failures g.F.LogFile.told g.F.LogFile.synced g.S.Source.drawn l.fn.self l.self × IsSame g.W.Wire.waited g.F.LogFile.failures l.fn.self l.self
