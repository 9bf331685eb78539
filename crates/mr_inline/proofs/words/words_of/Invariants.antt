use Rattle.std.proofs.Common.{length, ◌-◌}
use Rattle.mr_inline.proofs.CutSteps.{HasCut}
use Rattle.mr_inline.proofs.words.words_of.Given as goal

abbrev pub invariant-loop-at : goal.invariant-loop-at
invariant-loop-at l = HasCut l.line l.at l.words.items

abbrev pub decreases-loop-at : goal.decreases-loop-at
decreases-loop-at l = length l.line - l.at
