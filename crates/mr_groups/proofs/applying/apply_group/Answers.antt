use Rattle.std.proofs.Common.{◌<◌, length, take, drop, suc, Err, refl, ap, arith}
use Rattle.std.proofs.lemmas.List.{length-take-le}
use Rattle.mr_groups.proofs.Doing.{around, done_more, stops_at}
use Rattle.mr_groups.proofs.applying.apply_group.Goals as goal

pub returns-in-Err : goal.returns-in-Err
returns-in-Err c =
    let es = c.args.effects.now in
    let i = c.loop-effect.effect-index in
    let here : i < length es = omega arith in
    stops_at (take i es) (drop (suc i) es) es c.effect-item.result c.args.dataset.now c.loop-effect.dataset c.apply.new.self c.loop-effect.is_first c.in-Err.fault c.fault_of.result (Err c.in-Err.fault)
    (around es i c.effect-item.result here c.effect-item.is)
    c.loop-effect.invariant.begun
    (λ t. ap (λ k. take k es) (c.loop-effect.invariant.first t))
    (λ t. omega (arith, c.loop-effect.invariant.later t, length-take-le i es, here))
    refl
    c.in-Err.ensures.refused
    c.in-Err.ensures.unchanged
    c.in-Err.ensures.emptied
    c.in-Err.ensures.memory
    c.fault_of.ensures

pub loop-effect-preserved : goal.loop-effect-preserved
loop-effect-preserved c =
    let es = c.args.effects.now in
    let i = c.loop-effect.effect-index in
    let here : i < length es = omega arith in
    record {
      begun = done_more es i c.effect-item.result c.args.dataset.now c.loop-effect.dataset c.apply.new.self here c.effect-item.is c.loop-effect.invariant.begun c.in-Ok.ensures.ok;
      first = λ t. cc;
      later = λ t. omega arith;
    }
