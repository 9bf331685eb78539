use Rattle.std.proofs.Common.{ℕ, ◌+◌, ◌≤◌, length, take, sym, subst, ap, ◌∙◌, arith}
use Rattle.std.specs.List.{flat_map}
use Rattle.mr_order.specs.Standing.{IsPlaceOf, shifted}
use Rattle.mr_order.proofs.Flat.{flat_take}
use Rattle.mr_order.proofs.Locating.{in_named}
use Rattle.mr_order.proofs.Narrow.{divided_in, place_in}
use Rattle.mr_order.proofs.locate.locate.Goals as goal

pub locate-found-requires-clause-divided : goal.locate-found-requires-clause-divided
locate-found-requires-clause-divided g c =
    let f = g.P.Part.items in
    let xs = c.args.parts.now in
    let e = c.index-parts-part.result in
    divided_in (g.Q.Query.compare c.args.query) (flat_map f xs) (f e) _ (in_named f xs c.part_of-part.result e c.part_of-part.ensures.part c.index-parts-part.is) c.requires.divided

pub returns : goal.returns
returns g c =
    let f = g.P.Part.items in
    let xs = c.args.parts.now in
    let i = c.part_of-part.result in
    let e = c.index-parts-part.result in
    let compare = g.Q.Query.compare c.args.query in
    let start : ℕ = length (flat_map f (take i xs)) in
    let ends : length (flat_map f (take (i + 1) xs)) ≤ start + length (f e) = let more = flat_take f xs i e c.part_of-part.ensures.part in let same = ap (λ p. length (f p)) c.index-parts-part.is in omega arith in
    subst (IsPlaceOf compare (flat_map f xs)) (sym (c.shifted.ensures ∙ ap (λ n. shifted n c.locate-found.result) c.total.ensures))
    (place_in compare (flat_map f xs) (f e) start (in_named f xs i e c.part_of-part.ensures.part c.index-parts-part.is) start _ c.part_of-part.ensures.between (omega arith) ends c.locate-found.result c.locate-found.ensures)
