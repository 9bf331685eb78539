use Rattle.std.proofs.Common.{refl, ap, ◌∙◌}
use Rattle.std.specs.List.{insert}
use Rattle.mr_order.proofs.Flat.{flat_insert, flat_same, on_err}
use Rattle.mr_order.proofs.grow.put.Goals as goal

pub returns-in_err-insert-clause-err : goal.returns-in_err-insert-clause-err
returns-in_err-insert-clause-err g c =
    let f = g.P.Part.items in
    on_err c.from_residual.result (flat_same f c.args.parts.now.items c.args.part c.insert.new.self c.index_mut.result.now c.requires.part (c.in_err-insert.ensures.err ∙ ap f c.index_mut.ensures.value))

pub returns-clause-ok : goal.returns-clause-ok
returns-clause-ok g c =
    let f = g.P.Part.items in
    let d = c.index_mut.result.now in
    flat_insert f c.args.parts.now.items c.args.part c.args.place _ c.insert.new.self d c.args.item c.requires.part refl (c.requires.within d)
    (c.in_ok-insert.ensures.ok ∙ ap (λ p. insert (f p) c.args.place c.args.item) c.index_mut.ensures.value)
