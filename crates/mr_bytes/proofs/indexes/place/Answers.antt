use Rattle.std.proofs.Common.{◌≡◌, ◌<◌, ◌≤◌, pos, true, false, Some, ap, subst, ◌∙◌, w64}
use Rattle.std.specs.Prelude.{int_lt, unsigned_abs}
use Rattle.std.proofs.lemmas.Int.{to_z-of_z}
use Rattle.mr_bytes.proofs.Places.{from_front, past_end, from_end}
use Rattle.mr_bytes.proofs.Windows.{in_order, out_of_order}
use Rattle.mr_bytes.proofs.indexes.place.Goals as goal

pub returns-then-index-lt0-clause-place : goal.returns-then-index-lt0-clause-place
returns-then-index-lt0-clause-place c =
    let same = to_z-of_z w64 c.args.index c.ranges.index in
    from_end c.args.index c.args.len c.unsigned_abs.result c.checked_sub.result
    (out_of_order c.args.index (pos 0) (subst (λ z. int_lt z (pos 0) ≡ true) same c.if-index-lt0.true))
    (c.unsigned_abs.ensures.value ∙ ap unsigned_abs same)
    c.checked_sub.ensures

pub returns-then-place-len-clause-place : goal.returns-then-place-len-clause-place
returns-then-place-len-clause-place c =
    let same = to_z-of_z w64 c.args.index c.ranges.index in
    let front = in_order c.args.index (pos 0) (subst (λ z. int_lt z (pos 0) ≡ false) same c.if-index-lt0.false) in
    ap (λ z. Some (unsigned_abs z)) same ∙ from_front c.args.index c.args.len front (subst (λ z. unsigned_abs z < c.args.len) same c.if-place-len.true)

pub returns-else-place-len-clause-place : goal.returns-else-place-len-clause-place
returns-else-place-len-clause-place c =
    let same = to_z-of_z w64 c.args.index c.ranges.index in
    let front = in_order c.args.index (pos 0) (subst (λ z. int_lt z (pos 0) ≡ false) same c.if-index-lt0.false) in
    past_end c.args.index c.args.len front (subst (λ z. c.args.len ≤ unsigned_abs z) same c.if-place-len.false)
