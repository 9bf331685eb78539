use Rattle.std.proofs.Common.{Some}
use Rattle.std.specs.Cow.{cow_slice_items}
use Rattle.mr_cmd_string.proofs.FewLemmas.{cut_short}
use Rattle.mr_cmd_string.proofs.options.SetOptions.with_number.Goals as goal

pub returns-in_default-clause-err : goal.returns-in_default-clause-err
returns-in_default-clause-err c = cut_short cow_slice_items c.args.self (Some c.args.unit) c.args.words.now c.in_default.len_below
