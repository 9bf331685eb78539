-- The options of ranges, which stand in any order, each at most once.
use Rattle.std.specs.Prelude.{◌≡◌, ℕ, List, [], ◌∷◌, Bool, true, false, if◌then◌else◌, Option, Some, None, Result, Ok, Err, codes, find}
use Rattle.std.specs.Option.{is_some, ok_or}
use Rattle.std.specs.Str.{bytes_eq}
use Rattle.mr_arguments.specs.Names.{lowered}
use Rattle.mr_arguments.specs.Parts.{with}
use Rattle.mr_arguments.specs.declared.fault.AskFault.{AskFault}
use Rattle.mr_arguments.specs.declared.fault.AskFault.TheVariants.{Syntax}
use Rattle.mr_zset_options.specs.declared.choices.Order.{Order}
use Rattle.mr_zset_options.specs.declared.choices.Order.TheVariants.{Ascending, Descending}
use Rattle.mr_zset_options.specs.declared.choices.RangeReply.{RangeReply}
use Rattle.mr_zset_options.specs.declared.choices.RangeReply.TheVariants as reply
use Rattle.mr_zset_options.specs.declared.range_options.RangeOption.{RangeOption}
use Rattle.mr_zset_options.specs.declared.range_options.RangeOption.TheVariants as range
use Rattle.mr_zset_options.specs.declared.range_options.RangeBy.{RangeBy}
use Rattle.mr_zset_options.specs.declared.range_options.RangeBy.TheVariants.{Rank, Score}
use Rattle.mr_zset_options.specs.declared.range_options.LimitWords.{LimitWords}
use Rattle.mr_zset_options.specs.declared.range_options.RangeOptions.{RangeOptions}

-- option words, in lower case
abbrev pub range_text : RangeOption → List ℕ
range_text range.ByScore = codes "byscore"
range_text range.Reverse = codes "rev"
range_text range.WithScores = codes "withscores"

abbrev pub limit_text : List ℕ
limit_text = codes "limit"

abbrev pub is_range_option : List ℕ → RangeOption → Bool
is_range_option text option = bytes_eq text (range_text option)

-- all that are one word
abbrev pub all_range_options : List RangeOption
all_range_options = range.ByScore ∷ range.Reverse ∷ range.WithScores ∷ []

-- the one that a word is, in any case
abbrev pub range_option : List ℕ → Option RangeOption
range_option word = find (is_range_option (lowered word)) all_range_options

abbrev pub is_limit : List ℕ → Bool
is_limit word = bytes_eq (lowered word) limit_text

abbrev pub no_range_options : RangeOptions
no_range_options = record { by = Rank; order = Ascending; limit = None; reply = reply.Members }

-- with BYSCORE, REV or WITHSCORES, where it isn't set yet
abbrev pub by_score_also : RangeBy → Order → Option LimitWords → RangeReply → Result RangeOptions AskFault
by_score_also Rank order limit reply = Ok (record { by = Score; order = order; limit = limit; reply = reply })
by_score_also Score order limit reply = Err Syntax

abbrev pub reverse_also : RangeBy → Order → Option LimitWords → RangeReply → Result RangeOptions AskFault
reverse_also by Ascending limit reply = Ok (record { by = by; order = Descending; limit = limit; reply = reply })
reverse_also by Descending limit reply = Err Syntax

abbrev pub with_scores_also : RangeBy → Order → Option LimitWords → RangeReply → Result RangeOptions AskFault
with_scores_also by order limit reply.Members = Ok (record { by = by; order = order; limit = limit; reply = reply.WithScores })
with_scores_also by order limit reply.WithScores = Err Syntax

-- with one option more, where it isn't set yet
abbrev pub range_also : RangeOptions → RangeOption → Result RangeOptions AskFault
range_also options range.ByScore = by_score_also options.by options.order options.limit options.reply
range_also options range.Reverse = reverse_also options.by options.order options.limit options.reply
range_also options range.WithScores = with_scores_also options.by options.order options.limit options.reply

abbrev pub range_word : RangeOptions → List ℕ → Result RangeOptions AskFault
range_word options word = with (ok_or (range_option word) Syntax) (range_also options)

-- with LIMIT and its words, where it isn't set yet
abbrev pub limited : RangeOptions → List ℕ → List ℕ → Result RangeOptions AskFault
limited options offset count = if is_some options.limit then Err Syntax else Ok (record { by = options.by; order = options.order; limit = Some (record { offset = offset; count = count }); reply = options.reply })

-- what words set further, each an option or behind LIMIT
abbrev mutual
  pub range_options : RangeOptions → List (List ℕ) → Result RangeOptions AskFault
  range_options options [] = Ok options
  range_options options (word ∷ words) = if is_limit word then limit_then options words else with (range_word options word) (λ next. range_options next words)

  -- where LIMIT comes before the words
  pub limit_then : RangeOptions → List (List ℕ) → Result RangeOptions AskFault
  limit_then options [] = Err Syntax
  limit_then options (offset ∷ words) = offset_then options offset words

  -- where LIMIT and its offset come before the words
  pub offset_then : RangeOptions → List ℕ → List (List ℕ) → Result RangeOptions AskFault
  offset_then options offset [] = Err Syntax
  offset_then options offset (count ∷ words) = with (limited options offset count) (λ next. range_options next words)

-- the words of one option: a word, or LIMIT with two words behind it
abbrev pub AreOneOption : List (List ℕ) → Type 0
AreOneOption (word ∷ []) = is_limit word ≡ false
AreOneOption (word ∷ offset ∷ count ∷ []) = is_limit word ≡ true
AreOneOption _ = ⊥
