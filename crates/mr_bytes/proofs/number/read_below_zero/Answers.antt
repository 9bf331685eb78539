use Rattle.mr_bytes.proofs.Numbers.{none_below, found_below, below_spelled}
use Rattle.mr_bytes.proofs.number.read_below_zero.Goals as goal

pub returns-in_err-read_digits-clause-other : goal.returns-in_err-read_digits-clause-other
returns-in_err-read_digits-clause-other c = rw c.from_residual.ensures (none_below c.args.digits.now c.in_err-read_digits.ensures.other)

pub returns-clause-spelled : goal.returns-clause-spelled
returns-clause-spelled c = below_spelled c.args.digits.now c.in_ok-read_digits.field-0 c.negated.result c.in_ok-read_digits.ensures.spelled c.negated.ensures

pub returns-clause-other : goal.returns-clause-other
returns-clause-other c = found_below c.args.digits.now c.in_ok-read_digits.field-0 c.negated.result c.in_ok-read_digits.ensures.small c.in_ok-read_digits.ensures.spelled c.negated.ensures
