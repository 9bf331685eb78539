use Rattle.std.proofs.Common.{◌≡◌, take}
use Rattle.mr_keyspace.proofs.entries.copying.same_words.Given as goal

abbrev pub invariant-loop-word : goal.invariant-loop-word
invariant-loop-word l = l.same_words ≡ take l.word-index l.words
