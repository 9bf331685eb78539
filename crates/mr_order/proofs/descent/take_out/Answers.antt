use Rattle.std.proofs.Common.{length, sym, ap, ◌∙◌}
use Rattle.std.specs.List.{flat_map}
use Rattle.std.proofs.lemmas.Bool.{eqb-true}
use Rattle.mr_order.proofs.Changing.{taken_nothing}
use Rattle.mr_order.proofs.Flat.{none_of}
use Rattle.mr_order.proofs.descent.take_out.Goals as goal

pub returns-then-is_empty-clause-taken : goal.returns-then-is_empty-clause-taken
returns-then-is_empty-clause-taken g c =
    let f = g.P.Part.items in
    let xs = c.args.parts.now.items in
    let none = sym c.args.parts.now.ok.0 ∙ eqb-true c.args.parts.now.len 0 (sym c.is_empty.ensures ∙ c.if-is_empty.true) in
    taken_nothing (g.Q.Query.compare c.args.query) (flat_map f xs) (ap (λ l. length (flat_map f l)) (none_of xs none))
