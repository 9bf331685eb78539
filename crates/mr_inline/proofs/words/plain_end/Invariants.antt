use Rattle.std.proofs.Common.{length, ◌-◌}
use Rattle.mr_inline.proofs.CutSteps.{IsPlainSoFar}
use Rattle.mr_inline.proofs.words.plain_end.Given as goal

abbrev pub invariant-loop-at : goal.invariant-loop-at
invariant-loop-at l = IsPlainSoFar l.line l.start l.at

abbrev pub decreases-loop-at : goal.decreases-loop-at
decreases-loop-at l = length l.line - l.at
