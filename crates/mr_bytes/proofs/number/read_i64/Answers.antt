use Rattle.std.proofs.Common.{◌≡◌, ◌≢◌, ◌∷◌, ◌<◌, ◌-◌, length, get_or, take, drop, ap, ◌∙◌, arith}
use Rattle.mr_bytes.specs.Number.{number_of}
use Rattle.mr_bytes.proofs.Numbers.{begins, past, number_found, natural_found}
use Rattle.mr_bytes.proofs.number.read_i64.Goals as goal
use Rattle.mr_bytes.proofs.number.read_i64.Goals.{in_default-via-then-text-lt1, in_default-via-else-text-lt1+in_default-1}

pub returns-in-45-clause-number : goal.returns-in-45-clause-number
returns-in-45-clause-number c =
    let text = c.args.text.now in
    let digits = take (length text - 1) (drop 1 text) in
    let same : 45 ∷ digits ≡ text = begins text 45 c.in-45.len_at_least (omega arith) in
    number_found (45 ∷ digits) c.read_below_zero.result c.read_below_zero.ensures.spelled c.read_below_zero.ensures.other ∙ ap number_of same

pub returns-in_default-clause-number : goal.returns-in_default-clause-number
returns-in_default-clause-number c =
    let front : get_or c.args.text.now 0 0 ≢ 45 = elim c.in_default.branch [
      | in_default-via-then-text-lt1 w ↦ (let none : length c.args.text.now < 1 = grind arith in past c.args.text.now none)
      | in_default-via-else-text-lt1+in_default-1 w ↦ grind arith
    ] in
    natural_found c.args.text.now c.read_natural.result front c.read_natural.ensures.spelled c.read_natural.ensures.other
