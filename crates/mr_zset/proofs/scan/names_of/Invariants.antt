use Rattle.std.proofs.Common.{◌≡◌, ◌≤◌, drop, length}
use Rattle.mr_zset.specs.Stored.{scores_of}
use Rattle.mr_zset.proofs.scan.names_of.Given as goal

-- the pairs from a place on are named
abbrev pub invariant-loop-left : goal.invariant-loop-left
invariant-loop-left l = (l.left ≤ length l.pairs) × (l.names ≡ scores_of (drop l.left l.pairs))

abbrev pub decreases-loop-left : goal.decreases-loop-left
decreases-loop-left l = l.left
