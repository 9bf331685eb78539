-- What single arguments say.
use Rattle.std.specs.Prelude.{ℕ, ℤ, List, Option, Some, None, Result, Ok}
use Rattle.std.specs.Option.{ok_or}
use Rattle.mr_arguments.specs.Parts.{with, integer}
use Rattle.mr_arguments.specs.declared.fault.AskFault.{AskFault}
use Rattle.mr_arguments.specs.declared.fault.AskFault.TheVariants.{Integer, Other}
use Rattle.mr_arguments.specs.declared.fault.BadValue.TheVariants as bad
use Rattle.mr_zset.specs.declared.bound.Bound.{Bound}
use Rattle.mr_score.specs.Texts.{score_of}
use Rattle.mr_zset.specs.Texts.{bound_of}
use Rattle.mr_zset_options.specs.declared.range_options.LimitWords.{LimitWords}
use Rattle.mr_zset_options.specs.declared.choices.Limit.{Limit}
use Rattle.mr_zset_options.specs.declared.choices.Order.{Order}
use Rattle.mr_zset_options.specs.declared.choices.Order.TheVariants.{Ascending, Descending}

-- a score
abbrev pub score : List ℕ → Result ℤ AskFault
score word = ok_or (score_of word) Integer

-- a bound on scores
abbrev pub bound : List ℕ → Result Bound AskFault
bound word = ok_or (bound_of word) (Other bad.Bound)

-- the lower and the upper bound of a range; in descending order the upper one comes first
abbrev pub bounds : Order → List ℕ → List ℕ → Result (Bound × Bound) AskFault
bounds Ascending a b = with (bound a) (λ min. with (bound b) (λ max. Ok (min, max)))
bounds Descending a b = with (bound b) (λ min. with (bound a) (λ max. Ok (min, max)))

-- the part of a range that is answered
abbrev pub limit : LimitWords → Result Limit AskFault
limit words = with (integer words.offset) (λ offset. with (integer words.count) (λ count. Ok (record { offset = offset; count = count })))

-- .. where LIMIT is there
abbrev pub limit_if_any : Option LimitWords → Result (Option Limit) AskFault
limit_if_any None = Ok None
limit_if_any (Some words) = with (limit words) (λ l. Ok (Some l))
