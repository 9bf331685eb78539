use Rattle.std.proofs.Common.{◌/◌, arith, rules}
use Rattle.std.proofs.lemmas.Fmt.{decimal_digit, decimal_step}
use Rattle.mr_resp.proofs.writing.push_count.Goals as goal

pub returns-then-count-lt10-clause-ok : goal.returns-then-count-lt10-clause-ok
returns-then-count-lt10-clause-ok c = rw (decimal_digit c.args.count c.if-count-lt10.true) (search rules)

pub returns-then-count-lt100-clause-ok : goal.returns-then-count-lt100-clause-ok
returns-then-count-lt100-clause-ok c = rw (decimal_step c.args.count (omega arith) (omega arith), decimal_digit (c.args.count / 10) (omega arith)) (search rules)
