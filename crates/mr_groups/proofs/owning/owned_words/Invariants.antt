use Rattle.std.proofs.Common.{◌≡◌, take}
use Rattle.mr_groups.proofs.owning.owned_words.Given as goal

abbrev pub invariant-loop-word : goal.invariant-loop-word
invariant-loop-word l = l.owned ≡ take l.word-index l.words
