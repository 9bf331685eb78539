use Rattle.std.proofs.Common.{length, sym, ap, ◌∙◌}
use Rattle.std.specs.List.{flat_map}
use Rattle.std.specs.Prelude.{option_copied}
use Rattle.std.proofs.lemmas.Bool.{eqb-true}
use Rattle.mr_order.proofs.Changing.{found_in, found_nothing}
use Rattle.mr_order.proofs.Flat.{none_of}
use Rattle.mr_order.proofs.Locating.{in_named}
use Rattle.mr_order.proofs.Narrow.{divided_in}
use Rattle.mr_order.proofs.locate.get.Goals as goal

pub returns-then-is_empty : goal.returns-then-is_empty
returns-then-is_empty g c =
    let f = g.P.Part.items in
    let xs = c.args.parts.now in
    let none = eqb-true (length xs) 0 (sym c.is_empty.ensures ∙ c.if-is_empty.true) in
    found_nothing (g.Q.Query.compare c.args.query) (flat_map f xs) (ap (λ l. length (flat_map f l)) (none_of xs none))

pub get-requires-clause-divided : goal.get-requires-clause-divided
get-requires-clause-divided g c =
    let f = g.P.Part.items in
    let xs = c.args.parts.now in
    let e = c.index-parts-part.result in
    divided_in (g.Q.Query.compare c.args.query) (flat_map f xs) (f e) _ (in_named f xs c.part_of-part.result e c.part_of-part.ensures.part c.index-parts-part.is) c.requires.divided

pub returns : goal.returns
returns g c =
    found_in (g.Q.Query.compare c.args.query) g.P.Part.items c.args.parts.now c.part_of-part.result c.index-parts-part.result c.index-parts-part.result c.part_of-part.ensures.part c.index-parts-part.is c.part_of-part.ensures.between
    (option_copied c.get.result) c.get.ensures
