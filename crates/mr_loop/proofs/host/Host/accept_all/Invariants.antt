use Rattle.std.proofs.Common.{true}
use Rattle.mr_loop.specs.Counting.{accepts_by}
use Rattle.mr_loop.specs.Going.{GoesUpTo}
use Rattle.mr_loop.specs.Hosts.{IsSame}
use Rattle.mr_loop.specs.Quiet.{AllWait}
use Rattle.mr_loop.proofs.host.Host.accept_all.Given as goal

abbrev pub invariant-loop : goal.invariant-loop
invariant-loop g l =
    GoesUpTo g.W.Wire.tells g.W.Wire.links g.W.Wire.failures g.F.LogFile.told g.F.LogFile.synced g.S.Source.drawn accepts_by l.counter true l.fn.self l.self × IsSame g.W.Wire.waited g.F.LogFile.failures l.fn.self l.self × (AllWait l.fn.self.node.now → AllWait l.self.node.now)
