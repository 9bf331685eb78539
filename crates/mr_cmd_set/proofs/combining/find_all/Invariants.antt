use Rattle.std.proofs.Common.{map, take}
use Rattle.std.specs.Cow.{cow_slice_items}
use Rattle.mr_cmd_set.specs.Finding.{HasFound}
use Rattle.mr_cmd_set.proofs.combining.find_all.Given as goal

abbrev pub invariant-loop-word : goal.invariant-loop-word
invariant-loop-word l = HasFound l.fn.given.now l.fn.held (map cow_slice_items (take l.word-index l.words)) l.found.sets.items l.found.other l.found.expired
