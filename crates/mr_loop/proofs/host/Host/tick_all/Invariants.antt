use Rattle.mr_loop.specs.Counting.{most_ticks}
use Rattle.mr_loop.specs.Hosts.{IsSame, moment_in, stage_in}
use Rattle.mr_loop.specs.Quiet.{AllWait}
use Rattle.mr_loop.proofs.Ticks.{PassesSoFar}
use Rattle.mr_loop.proofs.host.Host.tick_all.Given as goal

abbrev pub invariant-loop-left : goal.invariant-loop-left
invariant-loop-left g l =
    let on = stage_in g.W.Wire.links g.W.Wire.failures g.F.LogFile.told g.F.LogFile.synced in
    PassesSoFar g.W.Wire.tells l.fn.self.log.now.mode (most_ticks l.fn.self.moment.turn.done) l.left (moment_in g.S.Source.drawn l.fn.self) (moment_in g.S.Source.drawn l.self) (on l.fn.self) (on l.self)
    × IsSame g.W.Wire.waited g.F.LogFile.failures l.fn.self l.self × (AllWait l.fn.self.node.now → AllWait l.self.node.now)

abbrev pub decreases-loop-left : goal.decreases-loop-left
decreases-loop-left g l = l.left
