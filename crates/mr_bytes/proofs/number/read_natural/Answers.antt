use Rattle.mr_bytes.proofs.Numbers.{found_natural}
use Rattle.mr_bytes.proofs.number.read_natural.Goals as goal

pub returns-clause-other : goal.returns-clause-other
returns-clause-other c = found_natural c.args.text.now c.in_ok-read_digits.field-0 c.try_from.result c.ok.result c.in_ok-read_digits.ensures.small c.in_ok-read_digits.ensures.spelled c.try_from.ensures c.ok.ensures.value
