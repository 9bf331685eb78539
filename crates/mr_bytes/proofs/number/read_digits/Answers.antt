use Rattle.std.proofs.Common.{◌≡◌, ◌<◌, ◌+◌, ◌*◌, length, get_or, sym, ap, ◌∙◌, subst, arith}
use Rattle.std.specs.Char.{is_ascii_digit}
use Rattle.std.proofs.lemmas.Bool.{both_ways}
use Rattle.std.proofs.lemmas.Bool.Decides.{nat_tests}
use Rattle.mr_bytes.proofs.Numbers.{IsRead, bounds, digit, no_leading_zero, each_is_digit, read_more, read_small, read_all}
use Rattle.mr_bytes.proofs.number.read_digits.Goals as goal
use Rattle.mr_bytes.proofs.number.read_digits.Goals.{then-is_empty-via-then-is_empty, then-is_empty-via-else-is_empty+then-text-gt-MOST_DIGITS, else-text-eq48-via-then-text-eq48+else-text-gt1, else-text-eq48-via-else-text-eq48}

pub returns-then-is_empty-clause-other : goal.returns-then-is_empty-clause-other
returns-then-is_empty-clause-other c n small e =
    let same = ap length e in
    elim c.then-is_empty.branch [
      | then-is_empty-via-then-is_empty w ↦ let here = bounds n small in grind (arith, nat_tests, same, here)
      | then-is_empty-via-else-is_empty+then-text-gt-MOST_DIGITS w ↦ omega (arith, bounds n small, same)
    ]

pub returns-then-text-gt1-clause-other : goal.returns-then-text-gt1-clause-other
returns-then-text-gt1-clause-other c n small e =
    no_leading_zero n small (sym (ap (λ bs. get_or bs 0 0) e) ∙ c.if-text-eq48.true) (omega (arith, ap length e))

pub returns-then-not-is_ascii_digit-clause-other :
    goal.returns-then-not-is_ascii_digit-clause-other
returns-then-not-is_ascii_digit-clause-other c n small e =
    let i = c.loop-byte.byte-index in
    let here = each_is_digit n i small (omega (arith, ap length e)) in
    let same = ap (λ bs. is_ascii_digit (get_or bs i 0)) e in
    both_ways _ c.if-not-is_ascii_digit.true (c.is_ascii_digit.ensures.value ∙ same ∙ here)

pub overflow_mul-value : goal.overflow_mul-value
overflow_mul-value c = omega (arith, read_small c.args.text.now c.loop-byte.value c.loop-byte.byte-index 18 (omega arith) (omega arith) c.loop-byte.invariant)

pub overflow_add-value : goal.overflow_add-value
overflow_add-value c =
    let one = digit (get_or c.args.text.now c.loop-byte.byte-index 0) (sym c.is_ascii_digit.ensures.value ∙ c.if-not-is_ascii_digit.false) in
    omega (arith, one, read_small c.args.text.now c.loop-byte.value c.loop-byte.byte-index 18 (omega arith) (omega arith) c.loop-byte.invariant)

pub loop-byte-preserved : goal.loop-byte-preserved
loop-byte-preserved c =
    subst (λ d. IsRead c.args.text.now (c.loop-byte.value * 10 + d) (c.loop-byte.byte-index + 1)) (sym c.from.ensures)
    (read_more c.args.text.now c.loop-byte.value c.loop-byte.byte-index c.loop-byte-test.true c.loop-byte.invariant (sym c.is_ascii_digit.ensures.value ∙ c.if-not-is_ascii_digit.false))

pub returns-clause-small : goal.returns-clause-small
returns-clause-small c = read_small c.args.text.now c.loop-byte.value c.loop-byte.byte-index 19 (omega arith) (omega arith) c.loop-byte.invariant

pub returns-clause-spelled : goal.returns-clause-spelled
returns-clause-spelled c =
    let text = c.args.text.now in
    let all : c.loop-byte.byte-index ≡ length text = omega arith in
    let some : 0 < length text = grind (arith, nat_tests, c.if-is_empty.ensures) in
    let alone : get_or text 0 0 ≡ 48 → length text ≡ 1 = λ zero_first. elim c.else-text-eq48.branch [
      | else-text-eq48-via-then-text-eq48+else-text-gt1 w ↦ omega arith
      | else-text-eq48-via-else-text-eq48 w ↦ absurd (w.if-text-eq48.false zero_first)
    ] in
    read_all text c.loop-byte.value some c.if-text-gt-MOST_DIGITS.false alone (subst (IsRead text c.loop-byte.value) all c.loop-byte.invariant)
