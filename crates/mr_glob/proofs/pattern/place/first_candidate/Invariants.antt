use Rattle.std.proofs.Common.{length, ◌+◌, ◌-◌}
use Rattle.mr_glob.proofs.PlaceLemmas.{NoneUpTo}
use Rattle.mr_glob.proofs.pattern.place.first_candidate.Given as goal

abbrev pub invariant-loop-from : goal.invariant-loop-from
invariant-loop-from l = NoneUpTo l.pattern l.text l.from

abbrev pub decreases-loop-from : goal.decreases-loop-from
decreases-loop-from l = length l.text + 1 - l.from
