-- The words that options and bounds are spelled by.
use Rattle.std.specs.Prelude.{List, [], ◌∷◌, Option, Some, None}
use Rattle.mr_arguments.specs.Spelling.{Part, Number, Keyword, ScoreBound}
use Rattle.mr_zset.specs.declared.bound.Bound.{Bound}
use Rattle.mr_zset_options.specs.AddOptions.{add_text}
use Rattle.mr_zset_options.specs.RangeOptions.{range_text, limit_text}
use Rattle.mr_zset_options.specs.declared.add_options.AddOption.{AddOption}
use Rattle.mr_zset_options.specs.declared.add_options.AddOption.TheVariants as add
use Rattle.mr_zset_options.specs.declared.range_options.RangeOption.{RangeOption}
use Rattle.mr_zset_options.specs.declared.range_options.RangeOption.TheVariants as range
use Rattle.mr_zset_options.specs.declared.choices.ScoreCondition.{ScoreCondition}
use Rattle.mr_zset_options.specs.declared.choices.Comparison.{Comparison}
use Rattle.mr_zset_options.specs.declared.choices.ScoresReply.{ScoresReply}
use Rattle.mr_zset_options.specs.declared.choices.ScoresReply.TheVariants as added
use Rattle.mr_zset_options.specs.declared.choices.Order.{Order}
use Rattle.mr_zset_options.specs.declared.choices.Order.TheVariants.{Ascending, Descending}
use Rattle.mr_zset_options.specs.declared.choices.RangeReply.{RangeReply}
use Rattle.mr_zset_options.specs.declared.choices.RangeReply.TheVariants as reply
use Rattle.mr_zset_options.specs.declared.choices.Limit.{Limit}

-- an option of one word
abbrev pub add_word_option : AddOption → List (List Part)
add_word_option option = (Keyword (add_text option) ∷ []) ∷ []

abbrev pub range_word_option : RangeOption → List (List Part)
range_word_option option = (Keyword (range_text option) ∷ []) ∷ []

-- NX, XX
abbrev pub condition_option : Option ScoreCondition → List (List Part)
condition_option None = []
condition_option (Some condition) = add_word_option (add.Condition condition)

-- GT, LT
abbrev pub comparison_option : Option Comparison → List (List Part)
comparison_option None = []
comparison_option (Some comparison) = add_word_option (add.Comparison comparison)

-- CH
abbrev pub changed_option : ScoresReply → List (List Part)
changed_option added.Added = []
changed_option added.Changed = add_word_option add.Changed

-- REV
abbrev pub order_option : Order → List (List Part)
order_option Ascending = []
order_option Descending = range_word_option range.Reverse

-- WITHSCORES
abbrev pub scores_option : RangeReply → List (List Part)
scores_option reply.Members = []
scores_option reply.WithScores = range_word_option range.WithScores

-- LIMIT offset count
abbrev pub limit_option : Option Limit → List (List Part)
limit_option None = []
limit_option (Some limit) = (Keyword limit_text ∷ Number limit.offset ∷ Number limit.count ∷ []) ∷ []

-- the bounds of a range; in descending order the upper one comes first
abbrev pub bound_parts : Order → Bound → Bound → List Part
bound_parts Ascending min max = ScoreBound min ∷ ScoreBound max ∷ []
bound_parts Descending min max = ScoreBound max ∷ ScoreBound min ∷ []
