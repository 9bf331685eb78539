use Rattle.std.proofs.Common.{length}
use Rattle.mr_glob.proofs.PlaceLemmas.{Marked}
use Rattle.mr_glob.proofs.pattern.place.candidates.Given as goal

abbrev pub invariant-loop-places : goal.invariant-loop-places
invariant-loop-places l = Marked l.pattern l.text l.left l.later l.places

abbrev pub decreases-loop-places : goal.decreases-loop-places
decreases-loop-places l = length l.left
