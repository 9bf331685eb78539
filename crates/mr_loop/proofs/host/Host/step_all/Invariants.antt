use Rattle.mr_loop.specs.Causes.{IsLinked}
use Rattle.mr_loop.specs.Going.{Goes}
use Rattle.mr_loop.specs.Hosts.{IsSame}
use Rattle.mr_loop.specs.Quiet.{OthersWait, left_at}
use Rattle.mr_loop.proofs.host.Host.step_all.Given as goal

-- steps so far, behind which the link may be stepped once more
abbrev pub invariant-loop : goal.invariant-loop
invariant-loop g l =
    Goes g.W.Wire.tells g.W.Wire.links g.W.Wire.failures g.F.LogFile.told g.F.LogFile.synced g.S.Source.drawn l.fn.self l.self × IsSame g.W.Wire.waited g.F.LogFile.failures l.fn.self l.self
    × (OthersWait l.fn.self.node.now l.fn.link → OthersWait l.self.node.now l.fn.link) × IsLinked l.self.node.now l.self.own.now l.fn.socket l.fn.link

-- each step that goes on leaves less
abbrev pub decreases-loop : goal.decreases-loop
decreases-loop g l = left_at l.self.node.now l.fn.link
