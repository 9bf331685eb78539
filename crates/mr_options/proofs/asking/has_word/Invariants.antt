use Rattle.std.proofs.Common.{◌≡◌, length, map, string_bytes}
use Rattle.std.specs.List.{list_any}
use Rattle.mr_options.specs.Questions.{same_text}
use Rattle.mr_options.proofs.asking.has_word.Given as goal

-- the word is among those that are left where it is among all
abbrev pub invariant-loop-first : goal.invariant-loop-first
invariant-loop-first l = list_any (same_text l.word) (map string_bytes l.left) ≡ list_any (same_text l.word) (map string_bytes l.words)

abbrev pub decreases-loop-first : goal.decreases-loop-first
decreases-loop-first l = length l.left
