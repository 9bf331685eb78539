use Rattle.std.proofs.Common.{length, ◌-◌}
use Rattle.mr_inline.specs.Resumed.{Agrees}
use Rattle.mr_inline.proofs.measure.measure.Given as goal

abbrev pub invariant-loop-at : goal.invariant-loop-at
invariant-loop-at l = Agrees l.limit (record { at = l.at; place = l.place }) l.input

abbrev pub decreases-loop-at : goal.decreases-loop-at
decreases-loop-at l = length l.input - l.at
