use Rattle.std.proofs.Common.{refl, ap, ◌∙◌}
use Rattle.std.specs.List.{remove_range}
use Rattle.mr_order.proofs.Ranges.{flat_range}
use Rattle.mr_order.proofs.cutting.remove_within.Goals as goal

pub returns-clause-removed : goal.returns-clause-removed
returns-clause-removed g c =
    let f = g.P.Part.items in
    let d = c.index_mut.result.now in
    flat_range f c.args.parts.now.items c.args.part c.args.from c.args.to _ _ c.remove_range.new.self d c.requires.part refl refl c.requires.ordered (c.requires.within d)
    (c.remove_range.ensures.removed ∙ ap (λ p. remove_range (f p) c.args.from c.args.to) c.index_mut.ensures.value)
