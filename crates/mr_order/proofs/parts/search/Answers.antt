use Rattle.std.proofs.Common.{◌≡◌, ℕ, ◌+◌, ◌-◌, ◌/◌, ◌<◌, length, refl, sym, subst, ap, ◌∙◌, arith}
use Rattle.std.specs.List.{flat_map}
use Rattle.std.proofs.lemmas.List.{get_or_default}
use Rattle.mr_order.specs.Standing.{IsPlaceOf}
use Rattle.mr_order.proofs.Flat.{flat_item}
use Rattle.mr_order.proofs.Narrow.{between_in, divided_in, equal_at, in_part, narrowed_left, narrowed_right, place_in}
use Rattle.mr_order.proofs.parts.search.Goals as goal

pub search-found-requires-clause-divided : goal.search-found-requires-clause-divided
search-found-requires-clause-divided g c =
    let f = g.P.Part.items in
    let e = c.index-parts-part-then-to-start.result in
    let part = in_part f c.args.parts.now c.find-part.result.0 c.find-part.result.1 _ e c.find-part.ensures.part c.find-part.ensures.place c.index-parts-part-then-to-start.is in
    divided_in (g.Q.Query.compare c.args.query) (flat_map f c.args.parts.now) (f e) _ part c.requires.divided

pub search-found-requires-clause-between : goal.search-found-requires-clause-between
search-found-requires-clause-between g c =
    let f = g.P.Part.items in
    let xs = c.args.parts.now in
    let i = c.find-part.result.0 in
    let e = c.index-parts-part-then-to-start.result in
    let part = in_part f xs i c.find-part.result.1 _ e c.find-part.ensures.part c.find-part.ensures.place c.index-parts-part-then-to-start.is in
    let same : c.index-parts-part.result ≡ e = c.index-parts-part.is ∙ get_or_default xs i _ e c.find-part.ensures.part ∙ sym c.index-parts-part-then-to-start.is in
    let len = c.len.ensures.len ∙ ap (λ p. length (f p)) same in
    between_in (g.Q.Query.compare c.args.query) (flat_map f xs) (f e) _ part c.loop-from.from c.loop-from.to c.loop-from.invariant.between c.if-start-from.true (omega (arith, len, c.if-to-start.true))

pub returns-then-to-start-clause-place : goal.returns-then-to-start-clause-place
returns-then-to-start-clause-place g c =
    let f = g.P.Part.items in
    let xs = c.args.parts.now in
    let i = c.find-part.result.0 in
    let e = c.index-parts-part-then-to-start.result in
    let compare = g.Q.Query.compare c.args.query in
    let part = in_part f xs i c.find-part.result.1 _ e c.find-part.ensures.part c.find-part.ensures.place c.index-parts-part-then-to-start.is in
    let same : c.index-parts-part.result ≡ e = c.index-parts-part.is ∙ get_or_default xs i _ e c.find-part.ensures.part ∙ sym c.index-parts-part-then-to-start.is in
    let len = c.len.ensures.len ∙ ap (λ p. length (f p)) same in
    subst (IsPlaceOf compare (flat_map f xs)) (sym c.shifted.ensures)
    (place_in compare (flat_map f xs) (f e) _ part c.loop-from.from c.loop-from.to c.loop-from.invariant.between c.if-start-from.true (omega (arith, len, c.if-to-start.true)) c.search-found.result c.search-found.ensures.place)

pub loop-from-preserved-in-Greater : goal.loop-from-preserved-in-Greater
loop-from-preserved-in-Greater g c =
    let f = g.P.Part.items in
    let xs = c.args.parts.now in
    let compare = g.Q.Query.compare c.args.query in
    let n = c.loop-from.invariant in
    let m : ℕ = c.loop-from.from + (c.loop-from.to - c.loop-from.from) / 2 in
    let within : m < length (flat_map f xs) = omega (arith, n.between.within, c.loop-from-test.true) in
    let e = c.index-parts-part-in-loop-from.result in
    let d = c.item.result.now in
    let at = flat_item f xs c.find-part.result.0 c.find-part.result.1 m e d c.find-part.ensures.part c.find-part.ensures.place (c.find-part.ensures.within e) c.index-parts-part-in-loop-from.is c.item.ensures in
    narrowed_right compare (flat_map f xs) c.requires.divided m d within c.args.low c.args.high c.args.steps.now.count c.loop-from.from c.loop-from.to c.loop-from.steps.count c.compare.new.self.count n
    c.loop-from-test.true refl (omega (arith, c.compare.ensures.counted)) c.compare.ensures.rising (ap compare (sym at) ∙ sym c.in-Greater.ensures.answer)

pub returns-in-Equal-clause-place : goal.returns-in-Equal-clause-place
returns-in-Equal-clause-place g c =
    let f = g.P.Part.items in
    let xs = c.args.parts.now in
    let compare = g.Q.Query.compare c.args.query in
    let n = c.loop-from.invariant in
    let m : ℕ = c.loop-from.from + (c.loop-from.to - c.loop-from.from) / 2 in
    let within : m < length (flat_map f xs) = omega (arith, n.between.within, c.loop-from-test.true) in
    let e = c.index-parts-part-in-loop-from.result in
    let d = c.item.result.now in
    let at = flat_item f xs c.find-part.result.0 c.find-part.result.1 m e d c.find-part.ensures.part c.find-part.ensures.place (c.find-part.ensures.within e) c.index-parts-part-in-loop-from.is c.item.ensures in
    equal_at compare (flat_map f xs) c.requires.divided m d within (ap compare (sym at) ∙ sym c.in-Equal.ensures.answer)

pub loop-from-preserved : goal.loop-from-preserved
loop-from-preserved g c =
    let f = g.P.Part.items in
    let xs = c.args.parts.now in
    let compare = g.Q.Query.compare c.args.query in
    let n = c.loop-from.invariant in
    let m : ℕ = c.loop-from.from + (c.loop-from.to - c.loop-from.from) / 2 in
    let within : m < length (flat_map f xs) = omega (arith, n.between.within, c.loop-from-test.true) in
    let e = c.index-parts-part-in-loop-from.result in
    let d = c.item.result.now in
    let at = flat_item f xs c.find-part.result.0 c.find-part.result.1 m e d c.find-part.ensures.part c.find-part.ensures.place (c.find-part.ensures.within e) c.index-parts-part-in-loop-from.is c.item.ensures in
    narrowed_left compare (flat_map f xs) c.requires.divided m d within c.args.low c.args.high c.args.steps.now.count c.loop-from.from c.loop-from.to c.loop-from.steps.count c.compare.new.self.count n
    c.loop-from-test.true refl (omega (arith, c.compare.ensures.counted)) c.compare.ensures.rising (ap compare (sym at) ∙ sym c.in-Less.ensures.answer)
