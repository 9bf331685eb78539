use Rattle.std.proofs.Common.{◌≡◌, ◌≤◌, drop, length}
use Rattle.std.specs.Prelude.{option_copied, option_map, slice_get}
use Rattle.std.specs.FinMap.{entries}
use Rattle.mr_zset.specs.Few.{behind}
use Rattle.mr_zset.specs.Stored.{scores_of, stored}
use Rattle.mr_zset.proofs.scan.first_behind.Given as goal

-- the first one is found of the pairs from a place on
abbrev pub invariant-loop-left : goal.invariant-loop-left
invariant-loop-left l = (l.left ≤ length l.pairs) × (option_map stored (option_copied l.first) ≡ slice_get (behind (option_copied l.last) (entries (scores_of (drop l.left l.pairs)))) 0)

abbrev pub decreases-loop-left : goal.decreases-loop-left
decreases-loop-left l = l.left
