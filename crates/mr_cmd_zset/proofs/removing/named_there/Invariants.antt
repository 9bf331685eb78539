use Rattle.std.proofs.Common.{map, take}
use Rattle.std.specs.Cow.{cow_slice_items}
use Rattle.mr_cmd_zset.proofs.Removals.{IsThere}
use Rattle.mr_cmd_zset.proofs.removing.named_there.Given as goal

abbrev pub invariant-loop-word : goal.invariant-loop-word
invariant-loop-word l = IsThere l.there.items (map cow_slice_items (take l.word-index l.word-items)) l.set
