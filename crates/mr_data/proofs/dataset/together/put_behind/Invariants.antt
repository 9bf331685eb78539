use Rattle.std.proofs.Common.{◌≡◌, ◌++◌, take}
use Rattle.mr_map.specs.Bytes.{lent}
use Rattle.mr_data.proofs.dataset.together.put_behind.Given as goal

abbrev pub invariant-loop-word : goal.invariant-loop-word
invariant-loop-word l = lent l.members.items ≡ lent l.fn.members.items ++ take l.word-index l.words
