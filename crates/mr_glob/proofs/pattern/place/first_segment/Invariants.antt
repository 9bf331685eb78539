use Rattle.std.proofs.Common.{length}
use Rattle.mr_glob.proofs.PlaceLemmas.{Counted}
use Rattle.mr_glob.proofs.pattern.place.first_segment.Given as goal

abbrev pub invariant-loop-sign : goal.invariant-loop-sign
invariant-loop-sign l = Counted l.pattern l.left l.len

abbrev pub decreases-loop-sign : goal.decreases-loop-sign
decreases-loop-sign l = length l.left
