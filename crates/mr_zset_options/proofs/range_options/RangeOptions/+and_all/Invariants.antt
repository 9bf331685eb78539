use Rattle.std.proofs.Common.{length}
use Rattle.mr_zset_options.proofs.range_options.RangeOptions.+and_all.Given as goal

-- fewer words are left each time
abbrev pub decreases-and_all : goal.decreases-and_all
decreases-and_all l = length l.words.now
