use Rattle.std.proofs.Common.{◌≢◌, ◌<◌, ◌-◌, length, get_or, take, drop, Some, None, sym, ap, ◌∙◌, arith}
use Rattle.mr_bytes.proofs.Numbers.{begins}
use Rattle.mr_zset.proofs.BoundLemmas.{bound_excluding, bound_plain, no_byte}
use Rattle.mr_zset.proofs.bound.read_bound.Goals as goal
use Rattle.mr_zset.proofs.bound.read_bound.Goals.{in_default-via-then-text-lt1, in_default-via-else-text-lt1+in_default-1}

pub returns-in_err-read_limit-in-40 : goal.returns-in_err-read_limit-in-40
returns-in_err-read_limit-in-40 c =
    let text = c.args.text.now in
    c.from_residual.ensures ∙ bound_excluding text (take (length text - 1) (drop 1 text)) None (begins text 40 c.in-40.len_at_least (omega arith)) (sym c.in_err-read_limit-in-40.was ∙ c.read_limit.ensures)

pub returns-in_ok-read_limit-in-40 : goal.returns-in_ok-read_limit-in-40
returns-in_ok-read_limit-in-40 c =
    let text = c.args.text.now in
    let limit = c.in_ok-read_limit-in-40.field-0 in
    ap (λ b. Some b) c.excluding.ensures ∙ bound_excluding text (take (length text - 1) (drop 1 text)) (Some limit) (begins text 40 c.in-40.len_at_least (omega arith)) (sym c.in_ok-read_limit-in-40.was ∙ c.read_limit.ensures)

pub returns-in_default : goal.returns-in_default
returns-in_default c =
    let front : get_or c.args.text.now 0 0 ≢ 40 = elim c.in_default.branch [
      | in_default-via-then-text-lt1 w ↦ (let none : length c.args.text.now < 1 = grind arith in no_byte c.args.text.now none)
      | in_default-via-else-text-lt1+in_default-1 w ↦ grind arith
    ] in
    c.read_limit-in_default.ensures ∙ bound_plain c.args.text.now front
