use Rattle.std.proofs.Common.{ℕ, ◌+◌, ◌-◌, ◌/◌, ◌<◌, length, refl, sym, ap, ◌∙◌, arith}
use Rattle.mr_order.proofs.Narrow.{equal_at, narrowed_left, narrowed_right}
use Rattle.mr_order.proofs.seek.seek.Goals as goal

pub loop-from-preserved-in-Greater : goal.loop-from-preserved-in-Greater
loop-from-preserved-in-Greater g c =
    let compare = g.Q.Query.compare c.args.query in
    let n = c.loop-from.invariant in
    let m : ℕ = c.loop-from.from + (c.loop-from.to - c.loop-from.from) / 2 in
    let within : m < length c.args.items.now = omega (arith, n.between.within, c.loop-from-test.true) in
    narrowed_right compare c.args.items.now c.requires.divided m c.index-items-middle.result within c.args.low c.args.high c.args.steps.now.count c.loop-from.from c.loop-from.to c.loop-from.steps.count c.compare.new.self.count n
    c.loop-from-test.true refl (omega (arith, c.compare.ensures.counted)) c.compare.ensures.rising (ap compare (sym c.index-items-middle.is) ∙ sym c.in-Greater.ensures.answer)

pub returns-in-Equal-clause-place : goal.returns-in-Equal-clause-place
returns-in-Equal-clause-place g c =
    let compare = g.Q.Query.compare c.args.query in
    let n = c.loop-from.invariant in
    let m : ℕ = c.loop-from.from + (c.loop-from.to - c.loop-from.from) / 2 in
    let within : m < length c.args.items.now = omega (arith, n.between.within, c.loop-from-test.true) in
    equal_at compare c.args.items.now c.requires.divided m c.index-items-middle.result within (ap compare (sym c.index-items-middle.is) ∙ sym c.in-Equal.ensures.answer)

pub loop-from-preserved : goal.loop-from-preserved
loop-from-preserved g c =
    let compare = g.Q.Query.compare c.args.query in
    let n = c.loop-from.invariant in
    let m : ℕ = c.loop-from.from + (c.loop-from.to - c.loop-from.from) / 2 in
    let within : m < length c.args.items.now = omega (arith, n.between.within, c.loop-from-test.true) in
    narrowed_left compare c.args.items.now c.requires.divided m c.index-items-middle.result within c.args.low c.args.high c.args.steps.now.count c.loop-from.from c.loop-from.to c.loop-from.steps.count c.compare.new.self.count n
    c.loop-from-test.true refl (omega (arith, c.compare.ensures.counted)) c.compare.ensures.rising (ap compare (sym c.index-items-middle.is) ∙ sym c.in-Less.ensures.answer)
