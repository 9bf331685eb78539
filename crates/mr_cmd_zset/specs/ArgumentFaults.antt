-- The faults that the arguments of ZADD and of commands on ranges have, each taken by itself.
use Rattle.std.specs.Prelude.{ℕ, List, [], ◌∷◌, ◌++◌, Option, Some, None, Result, Ok, Err}
use Rattle.mr_arguments.specs.FaultOrder.{in_reading}
use Rattle.mr_arguments.specs.Parts.{integer}
use Rattle.mr_zset_options.specs.AddOptions.{add_options, option_words, pair_words}
use Rattle.mr_zset_options.specs.Parts.{bound, limit_if_any}
use Rattle.mr_zset_options.specs.RangeOptions.{no_range_options, range_options}
use Rattle.mr_cmd_zset.specs.Arguments.{score_pairs}
use Rattle.mr_arguments.specs.declared.fault.AskFault.{AskFault}
use Rattle.mr_arguments.specs.declared.fault.AskFault.TheVariants.{Syntax}
use Rattle.mr_zset_options.specs.declared.range_options.LimitWords.{LimitWords}
use Rattle.mr_zset_options.specs.declared.range_options.RangeBy.{RangeBy}
use Rattle.mr_zset_options.specs.declared.range_options.RangeBy.TheVariants.{Rank, Score}
use Rattle.mr_zset_options.specs.declared.range_options.RangeOptions.{RangeOptions}
use Rattle.mr_zset_options.specs.declared.choices.Order.{Order}
use Rattle.mr_zset_options.specs.declared.choices.Order.TheVariants.{Ascending}

-- the ends of a range, and LIMIT's words
abbrev pub scores_and_limit : List ℕ → List ℕ → Option LimitWords → List AskFault
scores_and_limit first second limit = in_reading (bound first) ++ in_reading (bound second) ++ in_reading (limit_if_any limit)

-- .. by the options: LIMIT needs BYSCORE
abbrev pub of_range : List ℕ → List ℕ → RangeBy → Order → Option LimitWords → List AskFault
of_range first second Rank order None = in_reading (integer first) ++ in_reading (integer second)
of_range first second Rank order (Some limit) = Syntax ∷ []
of_range first second Score order limit = scores_and_limit first second limit

-- .. with no option but WITHSCORES
abbrev pub of_reversed : List ℕ → List ℕ → RangeBy → Order → Option LimitWords → List AskFault
of_reversed first second Rank Ascending None = in_reading (integer first) ++ in_reading (integer second)
of_reversed first second _ _ _ = Syntax ∷ []

-- .. with no option but LIMIT and WITHSCORES
abbrev pub of_scores : List ℕ → List ℕ → RangeBy → Order → Option LimitWords → List AskFault
of_scores first second Rank Ascending limit = scores_and_limit first second limit
of_scores first second _ _ limit = Syntax ∷ []

abbrev pub in_range_options : (RangeBy → Order → Option LimitWords → List AskFault) → Result RangeOptions AskFault → List AskFault
in_range_options ends (Ok options) = ends options.by options.order options.limit
in_range_options ends (Err fault) = fault ∷ []

abbrev pub ends_and_options : (List ℕ → List ℕ → RangeBy → Order → Option LimitWords → List AskFault) → List (List ℕ) → Option (List AskFault)
ends_and_options ends (key ∷ first ∷ second ∷ words) = Some (in_range_options (ends first second) (range_options no_range_options words))
ends_and_options ends _ = None

-- what stands behind ZRANGE, behind ZREVRANGE, and behind ZRANGEBYSCORE and ZREVRANGEBYSCORE
abbrev pub range_faults : List (List ℕ) → Option (List AskFault)
range_faults = ends_and_options of_range

abbrev pub reversed_faults : List (List ℕ) → Option (List AskFault)
reversed_faults = ends_and_options of_reversed

abbrev pub score_range_faults : List (List ℕ) → Option (List AskFault)
score_range_faults = ends_and_options of_scores

-- what stands behind ZADD
abbrev pub add_faults : List (List ℕ) → Option (List AskFault)
add_faults (key ∷ word ∷ second ∷ words) =
    Some (in_reading (add_options (option_words (word ∷ second ∷ words))) ++ in_reading (score_pairs (pair_words (word ∷ second ∷ words))))
add_faults _ = None
