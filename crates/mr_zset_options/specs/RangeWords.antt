-- The words that are options of a range: a relation, which knows no order in which they are read.
use Rattle.std.specs.Prelude.{ℕ, List, [], ◌∷◌, ◌++◌, Option, Some, None}
use Rattle.mr_arguments.specs.Spelling.{Part, Word, Keyword, AreWithOptions}
use Rattle.mr_zset_options.specs.RangeOptions.{limit_text}
use Rattle.mr_zset_options.specs.Spelled.{order_option, range_word_option, scores_option}
use Rattle.mr_zset_options.specs.declared.range_options.LimitWords.{LimitWords}
use Rattle.mr_zset_options.specs.declared.range_options.RangeBy.{RangeBy}
use Rattle.mr_zset_options.specs.declared.range_options.RangeBy.TheVariants as by
use Rattle.mr_zset_options.specs.declared.range_options.RangeOption.TheVariants as range
use Rattle.mr_zset_options.specs.declared.range_options.RangeOptions.{RangeOptions}

-- BYSCORE
abbrev pub by_option : RangeBy → List (List Part)
by_option by.Rank = []
by_option by.Score = range_word_option range.ByScore

-- LIMIT with the two words behind it
abbrev pub limit_words_option : Option LimitWords → List (List Part)
limit_words_option None = []
limit_words_option (Some words) = (Keyword limit_text ∷ Word words.offset ∷ Word words.count ∷ []) ∷ []

-- each option that is set, with its words
abbrev pub options_set : RangeOptions → List (List Part)
options_set options = by_option options.by ++ order_option options.order ++ limit_words_option options.limit ++ scores_option options.reply

-- the words are these options, in some order, each once
abbrev pub AreRangeOptions : List (List ℕ) → RangeOptions → Type 0
AreRangeOptions words options = AreWithOptions words [] (options_set options)
