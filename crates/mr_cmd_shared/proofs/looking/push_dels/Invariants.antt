use Rattle.std.specs.Prelude.{map, take}
use Rattle.std.specs.Cow.{cow_slice_items}
use Rattle.mr_cmd_shared.specs.Keys.{is_stored}
use Rattle.mr_cmd_shared.proofs.KeyLists.{HasTaken}
use Rattle.mr_cmd_shared.proofs.looking.push_dels.Given as goal

abbrev pub invariant-loop-word : goal.invariant-loop-word
invariant-loop-word l = HasTaken (is_stored l.fn.given.now l.expired) (map cow_slice_items (take l.word-index l.word-items)) l.held l.taken l.initial.effects l.effects
