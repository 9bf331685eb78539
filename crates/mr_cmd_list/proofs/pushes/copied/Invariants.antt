use Rattle.std.proofs.Common.{◌≡◌, take}
use Rattle.std.specs.Prelude.{map}
use Rattle.std.specs.Cow.{cow_slice_items}
use Rattle.mr_cmd_list.proofs.pushes.copied.Given as goal

abbrev pub invariant-loop-word : goal.invariant-loop-word
invariant-loop-word l = l.copied ≡ map cow_slice_items (take l.word-index l.words)
