use Rattle.std.proofs.Common.{ℤ, pos, sym, ap, subst, ◌∙◌, arith}
use Rattle.std.specs.Int.{FitsUnsignedBits}
use Rattle.std.proofs.Math.IntN.{nat_abs}
use Rattle.mr_peer_lines.proofs.Places.{small, one_number, fits_count, not_none, is_value}
use Rattle.mr_peer_lines.proofs.offset.read_offset.Goals as goal

pub returns-in_err-read_i64-clause-none : goal.returns-in_err-read_i64-clause-none
returns-in_err-read_i64-clause-none c = rw c.from_residual.ensures (λ n few is. c.in_err-read_i64.ensures.other (pos n) (small n few) is)

pub returns-in_err-number-clause-none : goal.returns-in_err-number-clause-none
returns-in_err-number-clause-none c = rw c.from_residual-in_err-number.ensures (λ n few is.
    let z = c.in_ok-read_i64.field-0 in
    let same = fits_count z n (one_number c.args.text.now z n few (sym c.in_ok-read_i64.ensures.number) is) few in
    not_none c.try_from.result _ _ c.try_from.ensures (subst (λ (y : ℤ). FitsUnsignedBits 64 y) (sym same) (omega (arith, few))) (sym c.ok.ensures.value ∙ c.in_err-number.was))

pub returns-then-number-gt-OFFSET_LIMIT-clause-none : goal.returns-then-number-gt-OFFSET_LIMIT-clause-none
returns-then-number-gt-OFFSET_LIMIT-clause-none c n few is =
    let z = c.in_ok-read_i64.field-0 in
    let same = fits_count z n (one_number c.args.text.now z n few (sym c.in_ok-read_i64.ensures.number) is) few in
    let value = is_value c.try_from.result _ _ c.in_ok-number.number c.try_from.ensures (sym c.ok.ensures.value ∙ c.in_ok-number.was) in
    omega (arith, value, ap nat_abs same, few, c.if-number-gt-OFFSET_LIMIT.true)
