use Rattle.std.proofs.Common.{◌≡◌, map, drop}
use Rattle.std.specs.Cow.{cow_slice_items}
use Rattle.mr_arguments.specs.Options.{added}
use Rattle.mr_arguments.specs.Parts.{with}
use Rattle.mr_zset_options.specs.AddOptions.{add_word, add_options, agreeing}
use Rattle.mr_zset_options.proofs.add_options.AddOptions.read.Given as goal

-- what the words that are left add
abbrev pub invariant-loop-word : goal.invariant-loop-word
invariant-loop-word l = with (added add_word l.options (map cow_slice_items (drop l.word-index l.words))) agreeing ≡ add_options (map cow_slice_items l.words)
