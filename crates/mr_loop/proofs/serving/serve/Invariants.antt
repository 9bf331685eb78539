use Rattle.std.proofs.Common.{◌≡◌, [], false, true}
use Rattle.mr_loop.specs.Hosts.{FileGoes}
use Rattle.mr_loop.specs.Stage.{stage}
use Rattle.mr_loop.specs.Quiet.{AllWait}
use Rattle.mr_loop.specs.Outcomes.{TurnsOn}
use Rattle.mr_loop.proofs.serving.serve.Given as goal

abbrev pub invariant-loop : goal.invariant-loop
invariant-loop g l =
    TurnsOn g.W.Wire.tells l.fn.log.mode l.counter (g.S.Source.drawn l.fn.source) (g.S.Source.drawn l.source) (stage l.fn.node l.fn.links (g.W.Wire.links l.fn.wire) (g.W.Wire.failures l.fn.wire) (g.F.LogFile.told l.fn.log.file) (g.F.LogFile.synced l.fn.log.file)) (stage l.node l.links (g.W.Wire.links l.wire) (g.W.Wire.failures l.wire) (g.F.LogFile.told l.log.file) (g.F.LogFile.synced l.log.file))
    × (l.log.mode ≡ l.fn.log.mode) × (l.links.batch ≡ []) × (AllWait l.fn.node → AllWait l.node) × (l.links.halted ≡ false) × (l.node.core.up ≡ true) × FileGoes g.F.LogFile.failures l.fn.log l.log
