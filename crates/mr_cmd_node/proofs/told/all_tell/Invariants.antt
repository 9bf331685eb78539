use Rattle.std.proofs.Common.{◌≡◌, map, length}
use Rattle.std.specs.Cow.{cow_slice_items}
use Rattle.mr_cmd_node.specs.Options.{all_tell}
use Rattle.mr_cmd_node.proofs.told.all_tell.Given as goal

-- so far each option was one
abbrev pub invariant-loop-left : goal.invariant-loop-left
invariant-loop-left l = all_tell (map cow_slice_items l.fn.words) ≡ all_tell (map cow_slice_items l.left)

abbrev pub decreases-loop-left : goal.decreases-loop-left
decreases-loop-left l = length l.left
