use Rattle.std.proofs.Common.{length}
use Rattle.mr_cmd_string.proofs.options.SetOptions.+and_all.Given as goal

-- fewer words are left each time
abbrev pub decreases-and_all : goal.decreases-and_all
decreases-and_all l = length l.words.now
