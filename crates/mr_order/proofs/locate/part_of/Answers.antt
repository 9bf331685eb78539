use Rattle.std.proofs.Common.{◌≡◌, ℕ, ◌+◌, ◌-◌, ◌/◌, ◌<◌, length, take, add-zero, true, false, sym, ap, ◌∙◌, arith}
use Rattle.std.specs.List.{flat_map}
use Rattle.std.specs.Ordering.{is_lt}
use Rattle.mr_order.proofs.Flat.{flat_item}
use Rattle.mr_order.proofs.Locating.{among_back, among_front, among_one}
use Rattle.mr_order.proofs.locate.part_of.Goals as goal

pub loop-part-preserved-then-is_lt : goal.loop-part-preserved-then-is_lt
loop-part-preserved-then-is_lt g c =
    let f = g.P.Part.items in
    let xs = c.args.parts.now in
    let n = c.loop-part.invariant in
    let m : ℕ = c.loop-part.part + (c.loop-part.past - c.loop-part.part) / 2 in
    let hi : m < c.loop-part.past = omega (arith, c.loop-part-test.true) in
    let within : m < length xs = omega (arith, n.within, hi) in
    let e = c.index-parts-middle.result in
    let d = c.first.result.now in
    let some = (c.requires.sound m e within).some in
    let at = flat_item f xs m 0 (length (flat_map f (take m xs))) e d within (add-zero _) some c.index-parts-middle.is c.first.ensures in
    let less : is_lt (g.Q.Query.compare c.args.query d) ≡ true = ap is_lt (sym c.compare.ensures) ∙ sym c.is_lt.ensures ∙ c.if-is_lt.true in
    among_front (g.Q.Query.compare c.args.query) f xs c.requires.divided c.loop-part.part c.loop-part.past m n e d (omega (arith, c.loop-part-test.true)) hi some at less

pub loop-part-preserved : goal.loop-part-preserved
loop-part-preserved g c =
    let f = g.P.Part.items in
    let xs = c.args.parts.now in
    let n = c.loop-part.invariant in
    let m : ℕ = c.loop-part.part + (c.loop-part.past - c.loop-part.part) / 2 in
    let hi : m < c.loop-part.past = omega (arith, c.loop-part-test.true) in
    let within : m < length xs = omega (arith, n.within, hi) in
    let e = c.index-parts-middle.result in
    let d = c.first.result.now in
    let some = (c.requires.sound m e within).some in
    let at = flat_item f xs m 0 (length (flat_map f (take m xs))) e d within (add-zero _) some c.index-parts-middle.is c.first.ensures in
    let not_less : is_lt (g.Q.Query.compare c.args.query d) ≡ false = ap is_lt (sym c.compare.ensures) ∙ sym c.is_lt.ensures ∙ c.if-is_lt.false in
    among_back (g.Q.Query.compare c.args.query) f xs c.requires.divided c.loop-part.part c.loop-part.past m n e d (omega (arith, c.loop-part-test.true)) hi some at not_less

pub returns-clause-between : goal.returns-clause-between
returns-clause-between g c =
    among_one (g.Q.Query.compare c.args.query) g.P.Part.items c.args.parts.now c.loop-part.part c.loop-part.past c.loop-part.invariant (omega (arith, c.loop-part-test.false))
