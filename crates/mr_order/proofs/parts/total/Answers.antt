use Rattle.std.proofs.Common.{length, ap, arith}
use Rattle.mr_order.proofs.Flat.{flat_bound}
use Rattle.mr_order.proofs.parts.total.Goals as goal

pub overflow_add-total : goal.overflow_add-total
overflow_add-total g c =
    let f = g.P.Part.items in
    let e = c.part-item.result in
    let bound = flat_bound f c.args.parts.now c.loop-part.part-index e c.loop-part-test.true in
    let same = ap (λ p. length (f p)) c.part-item.is in
    omega (arith, c.loop-part.invariant, c.requires.small)
