use Rattle.std.proofs.Common.{get_or, refl, sym, ap, ◌∙◌}
use Rattle.std.specs.List.{remove}
use Rattle.std.proofs.lemmas.List.Concat.{get_or-flat_map}
use Rattle.mr_order.proofs.Flat.{flat_remove}
use Rattle.mr_order.proofs.shrink.take_from.Goals as goal

pub returns-clause-removed : goal.returns-clause-removed
returns-clause-removed g c =
    let f = g.P.Part.items in
    let d = c.index_mut.result.now in
    flat_remove f c.args.parts.now.items c.args.part c.args.place _ c.remove.new.self d c.requires.part refl (c.requires.within d)
    (c.remove.ensures.removed ∙ ap (λ p. remove (f p) c.args.place) c.index_mut.ensures.value)

pub returns-clause-value : goal.returns-clause-value
returns-clause-value g c =
    let f = g.P.Part.items in
    let e = c.index_mut.result.now in
    let d = c.remove.result in
    c.remove.ensures.value ∙ ap (λ p. get_or (f p) c.args.place d) c.index_mut.ensures.value
    ∙ sym (get_or-flat_map f c.args.parts.now.items c.args.part c.args.place e d c.requires.part (c.requires.within e))
