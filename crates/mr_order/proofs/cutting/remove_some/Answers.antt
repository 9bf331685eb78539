use Rattle.std.proofs.Common.{◌≡◌, ◌+◌, ◌<◌, get_or, length, take, sym, subst, ap, ◌∙◌, arith}
use Rattle.std.specs.List.{flat_map}
use Rattle.std.proofs.lemmas.List.{get_or_default}
use Rattle.mr_order.proofs.Ranges.{flat_whole}
use Rattle.mr_order.proofs.cutting.remove_some.Goals as goal

pub returns-then-past-place-clause-removed : goal.returns-then-past-place-clause-removed
returns-then-past-place-clause-removed g c =
    let f = g.P.Part.items in
    let xs = c.args.parts.now.items in
    let i = c.find-part.result.0 in
    let e = c.remove.result in
    let same : c.deref.result.now ≡ xs = c.deref.ensures.value in
    let part : i < length xs = subst (λ l. i < length l) same c.find-part.ensures.part in
    let place : length (flat_map f (take i xs)) + c.find-part.result.1 ≡ c.args.from = ap (λ l. length (flat_map f (take i l)) + c.find-part.result.1) (sym same) ∙ c.find-part.ensures.place in
    let inside : c.find-part.result.1 < length (f (get_or xs i e)) = subst (λ l. c.find-part.result.1 < length (f (get_or l i e))) same (c.find-part.ensures.within e) in
    let long : c.len-len.result ≡ length (f (get_or xs i e)) = c.len-len.ensures.len ∙ ap (λ p. length (f p)) (c.index.ensures ∙ get_or_default xs i _ e part) in
    let first : length (flat_map f (take i xs)) ≡ c.args.from = omega (arith, place, inside, long, c.if-past-place.true, c.min-past.ensures) in
    ap (flat_map f) c.remove.ensures.items ∙ flat_whole f xs i c.args.from _ e part first (omega (arith, long))
