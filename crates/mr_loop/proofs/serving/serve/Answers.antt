use Rattle.std.proofs.Common.{rules, ◌≡◌, ◌∙◌, Err, arith, refl, sym}
use Rattle.mr_loop.specs.Stage.{stage}
use Rattle.mr_loop.proofs.Runs.{has_turned, serves_all, serves_behind, serves_halted, turned_on}
use Rattle.mr_loop.proofs.Same.{goes_further, goes_still}
use Rattle.mr_loop.proofs.serving.serve.Goals as goal

pub returns-in_err-told-clause-went : goal.returns-in_err-told-clause-went
returns-in_err-told-clause-went g c =
    let why = c.in_err-told.field-0.0 in
    let told : c.from_residual.result ≡ Err why = search rules in
    serves_behind (g.S.Source.drawn c.loop.source) (stage c.loop.node c.loop.links (g.W.Wire.links c.loop.wire) (g.W.Wire.failures c.loop.wire) (g.F.LogFile.told c.loop.log.file) (g.F.LogFile.synced c.loop.log.file)) c.loop.log.mode c.args.log.now.mode (g.V.Watch.turns c.args.watch.now) c.loop.counter c.from_residual.result why told c.loop.invariant.1 (omega arith) c.loop.invariant.0 c.in_err-told.ensures.went

pub loop-preserved : goal.loop-preserved
loop-preserved g c = (turned_on (g.S.Source.drawn c.args.source.now) (stage c.args.node.now c.args.links.now (g.W.Wire.links c.args.wire.now) (g.W.Wire.failures c.args.wire.now) (g.F.LogFile.told c.args.log.now.file) (g.F.LogFile.synced c.args.log.now.file)) c.loop.counter _ (omega arith) c.loop.invariant.0 (has_turned c.loop.log.mode c.args.log.now.mode c.loop.invariant.1 c.in_ok-told.ensures.went c.if-told.false), c.turn_watched.ensures.mode ∙ c.loop.invariant.1, c.in_ok-told.ensures.written, λ q. c.in_ok-told.ensures.quiet (c.loop.invariant.3 q), sym c.in_ok-told.ensures.went.halted ∙ c.if-told.false, c.in_ok-told.ensures.up, goes_further c.loop.invariant.6 c.turn_watched.ensures.goes)

pub returns-then-told-clause-went : goal.returns-then-told-clause-went
returns-then-told-clause-went g c = serves_halted (g.V.Watch.turns c.args.watch.now) c.loop.counter (omega arith) c.loop.invariant.0 (has_turned c.loop.log.mode c.args.log.now.mode c.loop.invariant.1 c.in_ok-told.ensures.went c.if-told.true)

pub returns-then-told-clause-quiet : goal.returns-then-told-clause-quiet
returns-then-told-clause-quiet g c = λ q. c.in_ok-told.ensures.quiet (c.loop.invariant.3 q)

pub returns-clause-went : goal.returns-clause-went
returns-clause-went g c = serves_all (g.V.Watch.turns c.args.watch.now) c.loop.counter (omega arith) c.loop.invariant.0

pub loop-init : goal.loop-init
loop-init g c = ((refl, refl), refl, c.requires.filed, (λ q. q), c.requires.runs, c.requires.up, goes_still c.args.log.now)

pub returns-in_err-told-clause-goes : goal.returns-in_err-told-clause-goes
returns-in_err-told-clause-goes g c = goes_further c.loop.invariant.6 c.turn_watched.ensures.goes

pub returns-then-told-clause-goes : goal.returns-then-told-clause-goes
returns-then-told-clause-goes g c = goes_further c.loop.invariant.6 c.turn_watched.ensures.goes

pub returns-clause-goes : goal.returns-clause-goes
returns-clause-goes g c = c.loop.invariant.6
