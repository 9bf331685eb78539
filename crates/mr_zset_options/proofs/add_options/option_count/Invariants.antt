use Rattle.std.proofs.Common.{◌≡◌, ◌+◌, map, drop}
use Rattle.std.specs.Cow.{cow_slice_items}
use Rattle.mr_zset_options.specs.AddOptions.{option_count}
use Rattle.mr_zset_options.proofs.add_options.option_count.Given as goal

-- each word so far is an option
abbrev pub invariant-loop-word : goal.invariant-loop-word
invariant-loop-word l = (l.count ≡ l.word-index) × (l.count + option_count (map cow_slice_items (drop l.word-index l.words)) ≡ option_count (map cow_slice_items l.words))
