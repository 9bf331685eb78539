use Rattle.mr_zset_options.proofs.RangeReadLemmas.{range_read, only_range_read}
use Rattle.mr_zset_options.proofs.laws.range_options_are_read.Goals as goal

pub returns-clause-read : goal.returns-clause-read
returns-clause-read c = range_read

pub returns-clause-only : goal.returns-clause-only
returns-clause-only c = only_range_read
