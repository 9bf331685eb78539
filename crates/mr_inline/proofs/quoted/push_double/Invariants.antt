use Rattle.std.proofs.Common.{length, ◌-◌}
use Rattle.mr_inline.specs.declared.place.Place.TheVariants.{Double}
use Rattle.mr_inline.proofs.CutSteps.{HasUnquoted}
use Rattle.mr_inline.proofs.quoted.push_double.Given as goal

abbrev pub invariant-loop-at : goal.invariant-loop-at
invariant-loop-at l = HasUnquoted Double l.line l.start l.at l.fn.word.items l.word.items

abbrev pub decreases-loop-at : goal.decreases-loop-at
decreases-loop-at l = length l.line - l.at
