use Rattle.std.proofs.Common.{ap, refl, subst, sym}
use Rattle.mr_wire.specs.Wire.{WaitsOnce, WireState}
use Rattle.mr_loop.specs.Rows.{HasWaited}
use Rattle.mr_loop.specs.Stage.{stage}
use Rattle.mr_loop.proofs.Runs.{waited_turns}
use Rattle.mr_loop.proofs.Same.{goes_still}
use Rattle.mr_loop.proofs.turning.turn.Goals as goal

pub returns-in-Ok-clause-went : goal.returns-in-Ok-clause-went
returns-in-Ok-clause-went g c =
    let log = c.args.log.now in
    let wire = c.wait.new.wire in
    let on = λ (w : WireState). stage c.args.node.now c.args.links.now w (g.W.Wire.failures wire) (g.F.LogFile.told log.file) (g.F.LogFile.synced log.file) in
    let s = stage c.args.node.now c.args.links.now (g.W.Wire.links c.args.wire.now) (g.W.Wire.failures c.args.wire.now) (g.F.LogFile.told log.file) (g.F.LogFile.synced log.file) in
    let waited : HasWaited s (on (g.W.Wire.links wire)) = record { later = c.wait.ensures.later; is = ap on c.wait.ensures.same } in
    let new = c.turn_at.new in
    let t = stage new.node new.own (g.W.Wire.links new.wire) (g.W.Wire.failures new.wire) (g.F.LogFile.told new.log.file) (g.F.LogFile.synced new.log.file) in
    let moment = c.begun-moment.result in
    let first = g.S.Source.drawn c.begun-moment.new.source in
    waited_turns g.W.Wire.tells log.mode moment.fresh moment.begun (g.S.Source.drawn c.args.source.now) first (g.S.Source.drawn new.source) s (on (g.W.Wire.links wire)) t c.turn_at.result c.begun-moment.ensures.drawn c.begun-moment.ensures.forward waited c.turn_at.ensures.listener
    c.turn_at.ensures.went

pub returns-in-Ok-clause-hurries : goal.returns-in-Ok-clause-hurries
returns-in-Ok-clause-hurries g c = λ tells hurries. subst (λ z. WaitsOnce 0 (g.W.Wire.waited c.args.wire.now) z) (sym c.turn_at.ensures.waited) (c.wait.ensures.hurries tells hurries)

pub returns-in-Ok-clause-waits : goal.returns-in-Ok-clause-waits
returns-in-Ok-clause-waits g c = λ tells calm. subst (λ z. WaitsOnce 100 (g.W.Wire.waited c.args.wire.now) z) (sym c.turn_at.ensures.waited) (c.wait.ensures.waits tells calm)

pub returns-in-Err-clause-went : goal.returns-in-Err-clause-went
returns-in-Err-clause-went g c =
    let log = c.args.log.now in record {
      rose = c.in-Err.ensures.cause;
      is = ap (λ (w : WireState). stage c.args.node.now c.args.links.now w (g.W.Wire.failures c.wait.new.wire) (g.F.LogFile.told log.file) (g.F.LogFile.synced log.file)) c.wait.ensures.same;
      none_drawn = refl;
    }

pub returns-in-Err-clause-goes : goal.returns-in-Err-clause-goes
returns-in-Err-clause-goes g c = goes_still c.args.log.now
