use Rattle.std.proofs.Common.{◌<◌, length, get_or, add-zero, sym, ap, ◌∙◌, arith}
use Rattle.std.specs.List.{flat_map}
use Rattle.std.proofs.lemmas.List.Concat.{get_or-flat_map}
use Rattle.mr_order.proofs.Flat.{flat_take_single}
use Rattle.mr_order.proofs.shrink.take_single.Goals as goal

pub returns-clause-removed : goal.returns-clause-removed
returns-clause-removed g c =
    let f = g.P.Part.items in
    let d = c.remove-single.result in
    ap (flat_map f) c.remove-single.ensures.items ∙ flat_take_single f c.args.parts.now.items c.args.part d c.requires.part (c.requires.single d)

pub returns-clause-value : goal.returns-clause-value
returns-clause-value g c =
    let f = g.P.Part.items in
    let xs = c.args.parts.now.items in
    let e = c.remove-single.result in
    let d = c.remove.result in
    let inside : 0 < length (f (get_or xs c.args.part e)) = omega (arith, c.requires.single e) in
    c.remove.ensures.value ∙ ap (λ p. get_or (f p) 0 d) c.remove-single.ensures.value
    ∙ sym (get_or-flat_map f xs c.args.part 0 e d c.requires.part inside)
    ∙ ap (λ n. get_or (flat_map f xs) n d) (add-zero _)
