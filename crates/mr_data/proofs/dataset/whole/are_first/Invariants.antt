use Rattle.std.proofs.Common.{◌≡◌, ◌++◌, take}
use Rattle.mr_data.specs.Whole.{names}
use Rattle.mr_data.proofs.dataset.whole.are_first.Given as goal

-- the words so far were the first members
abbrev pub invariant-loop-word : goal.invariant-loop-word
invariant-loop-word l = names l.fn.left ≡ take l.word-index l.words ++ names l.left
