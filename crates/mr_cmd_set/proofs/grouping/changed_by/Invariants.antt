use Rattle.std.proofs.Common.{◌≡◌, take, map}
use Rattle.std.specs.Cow.{cow_slice_items}
use Rattle.std.specs.FinMap.{retain_keys}
use Rattle.mr_cmd_set.specs.Members.{as_set}
use Rattle.mr_cmd_set.specs.Grouping.{changes}
use Rattle.mr_cmd_set.proofs.grouping.changed_by.Given as goal

abbrev pub invariant-loop-word : goal.invariant-loop-word
invariant-loop-word l = l.changed ≡ retain_keys (as_set (map cow_slice_items (take l.word-index l.word-items))) (changes l.write l.set)
