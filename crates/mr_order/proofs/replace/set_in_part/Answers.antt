use Rattle.std.proofs.Common.{get_or, refl, sym, ap, set, ◌∙◌}
use Rattle.std.proofs.lemmas.List.Concat.{get_or-flat_map}
use Rattle.mr_order.proofs.Flat.{flat_replace}
use Rattle.mr_order.proofs.replace.set_in_part.Goals as goal

pub returns-clause-set : goal.returns-clause-set
returns-clause-set g c =
    let f = g.P.Part.items in
    let d = c.index_mut.result.now in
    flat_replace f c.args.parts.now.items c.args.part c.args.place _ c.set.new.self d c.args.item c.requires.part refl (c.requires.within d)
    (c.set.ensures.set ∙ ap (λ p. set (f p) c.args.place c.args.item) c.index_mut.ensures.value)

pub returns-clause-before : goal.returns-clause-before
returns-clause-before g c =
    let f = g.P.Part.items in
    let e = c.index_mut.result.now in
    let d = c.set.result in
    c.set.ensures.before ∙ ap (λ p. get_or (f p) c.args.place d) c.index_mut.ensures.value
    ∙ sym (get_or-flat_map f c.args.parts.now.items c.args.part c.args.place e d c.requires.part (c.requires.within e))
