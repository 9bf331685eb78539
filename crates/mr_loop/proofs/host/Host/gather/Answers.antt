use Rattle.std.proofs.Common.{ap, refl, ◌∙◌}
use Rattle.mr_wire.specs.Wire.{WireState}
use Rattle.mr_loop.specs.Stage.{LoopState, stage}
use Rattle.mr_loop.proofs.Same.{goes_still, same_on}
use Rattle.mr_loop.proofs.host.Host.gather.Goals as goal

pub loop-init : goal.loop-init
loop-init g c =
    let s = c.args.self.now in (
      (ap (λ (o : LoopState). stage s.node.now o (g.W.Wire.links s.wire.now) (g.W.Wire.failures s.wire.now) (g.F.LogFile.told s.log.now.file) (g.F.LogFile.synced s.log.now.file)) c.serve_nobody.ensures, refl),
      record { node = refl; own = refl; wire = refl; log = refl; source = refl; mode = refl; goes = goes_still _; wait_stays = refl },
    )

pub returns-in-None-clause-stays : goal.returns-in-None-clause-stays
returns-in-None-clause-stays g c =
    let s = c.loop.self in (
      ap (λ (w : WireState). stage s.node.now s.own.now w (g.W.Wire.failures c.ready.new.self) (g.F.LogFile.told s.log.now.file) (g.F.LogFile.synced s.log.now.file)) c.in-None.ensures.same
          ∙ (ap (λ k. stage s.node.now s.own.now (g.W.Wire.links s.wire.now) k (g.F.LogFile.told s.log.now.file) (g.F.LogFile.synced s.log.now.file)) c.in-None.ensures.failures ∙ c.loop.invariant.0.0),
      c.loop.invariant.0.1,
    )

pub returns-in-None-clause-same : goal.returns-in-None-clause-same
returns-in-None-clause-same g c = same_on c.args.self.now c.loop.self _ c.loop.invariant.1 (record { node = refl; own = refl; wire = refl; log = refl; source = refl; mode = refl; goes = goes_still _; wait_stays = c.in-None.ensures.waited })

pub loop-preserved : goal.loop-preserved
loop-preserved g c =
    let s = c.loop.self in (
      (
        ap (λ (o : LoopState). stage s.node.now o (g.W.Wire.links c.ready.new.self) (g.W.Wire.failures c.ready.new.self) (g.F.LogFile.told s.log.now.file) (g.F.LogFile.synced s.log.now.file)) c.serve.ensures
            ∙ (ap (λ (w : WireState). stage s.node.now s.own.now w (g.W.Wire.failures c.ready.new.self) (g.F.LogFile.told s.log.now.file) (g.F.LogFile.synced s.log.now.file)) c.in-Some.ensures.same
            ∙ (ap (λ k. stage s.node.now s.own.now (g.W.Wire.links s.wire.now) k (g.F.LogFile.told s.log.now.file) (g.F.LogFile.synced s.log.now.file)) c.in-Some.ensures.failures ∙ c.loop.invariant.0.0)),
        c.loop.invariant.0.1,
      ),
      same_on c.args.self.now c.loop.self _ c.loop.invariant.1 (record { node = refl; own = refl; wire = refl; log = refl; source = refl; mode = refl; goes = goes_still _; wait_stays = c.in-Some.ensures.waited }),
    )

pub returns-clause-stays : goal.returns-clause-stays
returns-clause-stays g c = c.loop.invariant.0

pub returns-clause-same : goal.returns-clause-same
returns-clause-same g c = c.loop.invariant.1
