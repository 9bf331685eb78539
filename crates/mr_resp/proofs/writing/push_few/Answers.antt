use Rattle.std.proofs.Common.{rules, length}
use Rattle.std.proofs.lemmas.Fmt.{decimal_digit}
use Rattle.std.proofs.lemmas.Slice.{overwrites}
use Rattle.mr_resp.proofs.writing.push_few.Goals as goal

pub returns-clause-ok : goal.returns-clause-ok
returns-clause-ok c = rw (decimal_digit (length c.args.word.now) c.requires.few) (search (rules, overwrites))
