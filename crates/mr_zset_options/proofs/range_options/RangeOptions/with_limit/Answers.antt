use Rattle.std.specs.Cow.{cow_slice_items}
use Rattle.mr_zset_options.proofs.FewLemmas.{cut_short}
use Rattle.mr_zset_options.proofs.range_options.RangeOptions.with_limit.Goals as goal

pub returns-in_default-clause-err : goal.returns-in_default-clause-err
returns-in_default-clause-err c = cut_short cow_slice_items c.args.self c.args.words.now c.in_default.len_below
