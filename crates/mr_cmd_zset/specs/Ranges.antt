-- Commands that answer a range of the pairs of a sorted set. An absent key has a set without members.
use Rattle.std.specs.Prelude.{ℤ, pos, negsuc, List, [], ◌∷◌, take, drop, reverse, Option, Some, None}
use Rattle.std.specs.List.{flat_map}
use Rattle.std.specs.FinMap.{len}
use Rattle.mr_map.specs.Bytes.{Bytes}
use Rattle.mr_resp.specs.Replies as reply
use Rattle.mr_resp.specs.Replies.{Tree}
use Rattle.mr_resp.specs.ReplyView.{trees_of}
use Rattle.mr_bytes.specs.Window.{window_of, windowed}
use Rattle.mr_zset.specs.declared.bound.Bound.{Bound}
use Rattle.mr_zset.specs.Pairs.{range_of}
use Rattle.mr_keyspace.specs.Steps.{sorted_sets}
use Rattle.mr_keyspace.specs.declared.value.Entry.{Entry}
use Rattle.mr_cmd_shared.specs.Answered.{Answered}
use Rattle.mr_cmd_shared.specs.Collections.{telling}
use Rattle.mr_zset_options.specs.declared.choices.Order.{Order}
use Rattle.mr_zset_options.specs.declared.choices.Order.TheVariants.{Ascending, Descending}
use Rattle.mr_zset_options.specs.declared.choices.RangeReply.{RangeReply}
use Rattle.mr_zset_options.specs.declared.choices.RangeReply.TheVariants.{Members, WithScores}
use Rattle.mr_zset_options.specs.declared.choices.Limit.{Limit}
use Rattle.mr_cmd_zset.specs.Scores.{Scores, pairs_in, score_reply}

-- pairs that stand from the least on, put in an order
abbrev pub ordered : Order → List (Bytes × ℤ) → List (Bytes × ℤ)
ordered Ascending pairs = pairs
ordered Descending pairs = reverse pairs

-- ---- what is answered of pairs: the members, or each member and behind it its score

abbrev pub pair_replies : RangeReply → Bytes × ℤ → List Tree
pair_replies Members pair = reply.bytes pair.0 ∷ []
pair_replies WithScores pair = reply.bytes pair.0 ∷ score_reply pair.1 ∷ []

abbrev pub pairs_reply : RangeReply → List (Bytes × ℤ) → Tree
pairs_reply shape pairs = reply.array (trees_of (flat_map (pair_replies shape) pairs))

-- ---- ZRANGE, ZREVRANGE: the pairs in the window of places, which are counted in the order that is asked for

abbrev pub ranked : ℤ → ℤ → Order → Scores → List (Bytes × ℤ)
ranked first last order scores = windowed (window_of first last (len scores)) (pairs_in order scores)

abbrev pub by_rank_answer : ℤ → ℤ → Order → RangeReply → Option Entry → Answered
by_rank_answer first last order shape = telling sorted_sets (λ scores. pairs_reply shape (ranked first last order scores))

-- ---- ZRANGE BYSCORE, ZRANGEBYSCORE, ZREVRANGEBYSCORE: the pairs within the bounds, put in the order, and of these what the limit leaves

-- what is behind the offset; nothing where that is below 0
abbrev pub passed : {X : Type 0} → ℤ → List X → List X
passed (pos offset) xs = drop offset xs
passed (negsuc k) xs = []

-- at most so many from the front; all where the count is below 0
abbrev pub at_most : {X : Type 0} → ℤ → List X → List X
at_most (pos count) xs = take count xs
at_most (negsuc k) xs = xs

abbrev pub limited : {X : Type 0} → Option Limit → List X → List X
limited None xs = xs
limited (Some limit) xs = at_most limit.count (passed limit.offset xs)

abbrev pub scored : Bound → Bound → Order → Option Limit → Scores → List (Bytes × ℤ)
scored min max order limit scores = limited limit (ordered order (range_of min max scores))

abbrev pub by_score_answer : Bound → Bound → Order → Option Limit → RangeReply → Option Entry → Answered
by_score_answer min max order limit shape = telling sorted_sets (λ scores. pairs_reply shape (scored min max order limit scores))
