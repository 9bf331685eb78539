-- Commands on sorted sets.
use Rattle.std.specs.Prelude.{ℕ, ℤ, List, [], ◌∷◌, Option, Some, None, Result, Ok, Err}
use Rattle.std.specs.Option.{ok_or}
use Rattle.mr_arguments.specs.Pairing.{pairs_of}
use Rattle.mr_arguments.specs.Parts.{with, integer, count}
use Rattle.mr_arguments.specs.declared.name.Name.{Name}
use Rattle.mr_arguments.specs.declared.name.Name.TheVariants as name
use Rattle.mr_arguments.specs.declared.fault.AskFault.{AskFault}
use Rattle.mr_arguments.specs.declared.fault.AskFault.TheVariants.{Arity, Syntax, Integer}
use Rattle.mr_zset_options.specs.AddOptions.{add_options, option_words, pair_words}
use Rattle.mr_zset_options.specs.Parts.{bounds, limit_if_any, score}
use Rattle.mr_zset_options.specs.RangeOptions.{no_range_options, range_options}
use Rattle.mr_zset_options.specs.Scored.{scored_of}
use Rattle.mr_zset_options.specs.declared.range_options.LimitWords.{LimitWords}
use Rattle.mr_zset_options.specs.declared.range_options.RangeBy.{RangeBy}
use Rattle.mr_zset_options.specs.declared.range_options.RangeBy.TheVariants.{Rank, Score}
use Rattle.mr_zset_options.specs.declared.choices.Order.{Order}
use Rattle.mr_zset_options.specs.declared.choices.Order.TheVariants.{Ascending, Descending}
use Rattle.mr_zset_options.specs.declared.choices.RangeReply.{RangeReply}
use Rattle.mr_cmd_zset.specs.declared.zset_ask.ZSetAsk.{ZSetAsk}
use Rattle.mr_cmd_zset.specs.declared.zset_ask.ZSetAsk.TheVariants as ask

-- at least one score with its member
abbrev pub score_pairs : List (List ℕ) → Result (List (ℤ × List ℕ)) AskFault
score_pairs [] = Err Syntax
score_pairs words = with (ok_or (pairs_of words) Syntax) (λ pairs. ok_or (scored_of pairs) Integer)

-- options, and behind them scores with their members
unfoldable pub add_scores : List ℕ → List (List ℕ) → Result ZSetAsk AskFault
add_scores key words = with (add_options (option_words words)) (λ options. with (score_pairs (pair_words words)) (λ pairs. Ok (ask.ZAdd key options.condition options.comparison options.reply pairs)))

-- ZADD key [NX|XX] [GT|LT] [CH] score member [score member ..]
abbrev pub zadd : List (List ℕ) → Result ZSetAsk AskFault
zadd [] = Err (Arity name.ZAdd)
zadd (key ∷ []) = Err (Arity name.ZAdd)
zadd (key ∷ word ∷ []) = Err (Arity name.ZAdd)
zadd (key ∷ words) = add_scores key words

-- ZINCRBY key by member
abbrev pub zincrby : List (List ℕ) → Result ZSetAsk AskFault
zincrby (key ∷ by ∷ member ∷ []) = with (score by) (λ n. Ok (ask.ZIncrBy key n member))
zincrby _ = Err (Arity name.ZIncrBy)

-- ZREM key member [member ..]
abbrev pub zrem : List (List ℕ) → Result ZSetAsk AskFault
zrem [] = Err (Arity name.ZRem)
zrem (key ∷ []) = Err (Arity name.ZRem)
zrem (key ∷ members) = Ok (ask.ZRem key members)

-- ZCARD key
abbrev pub zcard : List (List ℕ) → Result ZSetAsk AskFault
zcard (key ∷ []) = Ok (ask.ZCard key)
zcard _ = Err (Arity name.ZCard)

-- ZCOUNT key min max
abbrev pub zcount : List (List ℕ) → Result ZSetAsk AskFault
zcount (key ∷ min ∷ max ∷ []) = with (bounds Ascending min max) (λ ends. Ok (ask.ZCount key ends.0 ends.1))
zcount _ = Err (Arity name.ZCount)

-- ZSCORE key member
abbrev pub zscore : List (List ℕ) → Result ZSetAsk AskFault
zscore (key ∷ member ∷ []) = Ok (ask.ZScore key member)
zscore _ = Err (Arity name.ZScore)

-- ZMSCORE key member [member ..]
abbrev pub zmscore : List (List ℕ) → Result ZSetAsk AskFault
zmscore [] = Err (Arity name.ZMScore)
zmscore (key ∷ []) = Err (Arity name.ZMScore)
zmscore (key ∷ members) = Ok (ask.ZMScore key members)

-- ZRANK key member in ascending order, ZREVRANK in descending order
abbrev pub zrank : Name → Order → List (List ℕ) → Result ZSetAsk AskFault
zrank name order (key ∷ member ∷ []) = Ok (ask.GetRank key member order)
zrank name order _ = Err (Arity name)

-- a range of places
abbrev pub ranks : List ℕ → List ℕ → List ℕ → Order → RangeReply → Result ZSetAsk AskFault
ranks key first last order reply = with (integer first) (λ a. with (integer last) (λ b. Ok (ask.RangeByRank key a b order reply)))

-- a range of scores
abbrev pub scores : List ℕ → List ℕ → List ℕ → Order → Option LimitWords → RangeReply → Result ZSetAsk AskFault
scores key first second order limit reply = with (limit_if_any limit) (λ part. with (bounds order first second) (λ ends. Ok (ask.RangeByScore key ends.0 ends.1 order part reply)))

-- with options: LIMIT needs BYSCORE
abbrev pub range_with : List ℕ → List ℕ → List ℕ → RangeBy → Order → Option LimitWords → RangeReply → Result ZSetAsk AskFault
range_with key first second Rank order None reply = ranks key first second order reply
range_with key first second Rank order (Some limit) reply = Err Syntax
range_with key first second Score order limit reply = scores key first second order limit reply

-- ZRANGE key first last [REV] [WITHSCORES], ZRANGE key min max BYSCORE [REV] [LIMIT offset count] [WITHSCORES]
abbrev pub zrange : List (List ℕ) → Result ZSetAsk AskFault
zrange (key ∷ first ∷ second ∷ words) = with (range_options no_range_options words) (λ options. range_with key first second options.by options.order options.limit options.reply)
zrange _ = Err (Arity name.ZRange)

-- with no option but WITHSCORES
abbrev pub reversed_with : List ℕ → List ℕ → List ℕ → RangeBy → Order → Option LimitWords → RangeReply → Result ZSetAsk AskFault
reversed_with key first last Rank Ascending None reply = ranks key first last Descending reply
reversed_with key first last _ _ _ reply = Err Syntax

-- ZREVRANGE key first last [WITHSCORES]
abbrev pub zrevrange : List (List ℕ) → Result ZSetAsk AskFault
zrevrange (key ∷ first ∷ last ∷ words) = with (range_options no_range_options words) (λ options. reversed_with key first last options.by options.order options.limit options.reply)
zrevrange _ = Err (Arity name.ZRevRange)

-- with no option but LIMIT and WITHSCORES
abbrev pub scores_with : Order → List ℕ → List ℕ → List ℕ → RangeBy → Order → Option LimitWords → RangeReply → Result ZSetAsk AskFault
scores_with order key first second Rank Ascending limit reply = scores key first second order limit reply
scores_with order key first second _ _ limit reply = Err Syntax

-- ZRANGEBYSCORE key min max [WITHSCORES] [LIMIT offset count] in ascending order, ZREVRANGEBYSCORE key max min .. in descending order
abbrev pub range_by_score : Name → Order → List (List ℕ) → Result ZSetAsk AskFault
range_by_score name order (key ∷ first ∷ second ∷ words) =
    with (range_options no_range_options words) (λ options. scores_with order key first second options.by options.order options.limit options.reply)
range_by_score name order _ = Err (Arity name)

-- ZPOPMIN key [count] in ascending order, ZPOPMAX in descending order
abbrev pub zpop : Name → Order → List (List ℕ) → Result ZSetAsk AskFault
zpop name order (key ∷ []) = Ok (ask.TakePairs key order None)
zpop name order (key ∷ most ∷ []) = with (count most) (λ n. Ok (ask.TakePairs key order (Some n)))
zpop name order _ = Err (Arity name)

-- ZREMRANGEBYRANK key first last
abbrev pub zremrangebyrank : List (List ℕ) → Result ZSetAsk AskFault
zremrangebyrank (key ∷ first ∷ last ∷ []) = with (integer first) (λ a. with (integer last) (λ b. Ok (ask.ZRemRangeByRank key a b)))
zremrangebyrank _ = Err (Arity name.ZRemRangeByRank)

-- ZREMRANGEBYSCORE key min max
abbrev pub zremrangebyscore : List (List ℕ) → Result ZSetAsk AskFault
zremrangebyscore (key ∷ min ∷ max ∷ []) = with (bounds Ascending min max) (λ ends. Ok (ask.ZRemRangeByScore key ends.0 ends.1))
zremrangebyscore _ = Err (Arity name.ZRemRangeByScore)
