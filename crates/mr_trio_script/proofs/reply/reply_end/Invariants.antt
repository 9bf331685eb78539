use Rattle.std.proofs.Common.{◌-◌, length}
use Rattle.mr_trio_script.proofs.Readings.{HasRead}
use Rattle.mr_trio_script.proofs.reply.reply_end.Given as goal

abbrev pub invariant-loop-left : goal.invariant-loop-left
invariant-loop-left l = HasRead l.bytes l.at l.left

-- each part has a byte at least
abbrev pub decreases-loop-left : goal.decreases-loop-left
decreases-loop-left l = length l.bytes - l.at
