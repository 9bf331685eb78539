use Rattle.std.proofs.Common.{◌≡◌, map, take}
use Rattle.std.specs.Cow.{cow_slice_items}
use Rattle.mr_effect.proofs.words.EffectWords.borrowed.Given as goal

abbrev pub invariant-loop-word : goal.invariant-loop-word
invariant-loop-word l = l.items.items ≡ map cow_slice_items (take l.word-index l.words)
