-- Commands that tell of the members of a sorted set. An absent key has a set without members.
use Rattle.std.specs.Prelude.{ℕ, ◌-◌, ℤ, List, map, length, Option, Some, None}
use Rattle.std.specs.Option.{option_map}
use Rattle.std.specs.FinMap.{get, len}
use Rattle.mr_map.specs.Bytes.{Bytes}
use Rattle.mr_resp.specs.Replies as reply
use Rattle.mr_resp.specs.Replies.{Tree}
use Rattle.mr_resp.specs.ReplyView.{trees_of}
use Rattle.mr_zset.specs.declared.bound.Bound.{Bound}
use Rattle.mr_zset.specs.Pairs.{range_of, rank_of}
use Rattle.mr_keyspace.specs.Steps.{sorted_sets}
use Rattle.mr_keyspace.specs.declared.value.Entry.{Entry}
use Rattle.mr_cmd_shared.specs.Answered.{Answered}
use Rattle.mr_cmd_shared.specs.Collections.{telling}
use Rattle.mr_zset_options.specs.declared.choices.Order.{Order}
use Rattle.mr_zset_options.specs.declared.choices.Order.TheVariants.{Ascending, Descending}
use Rattle.mr_cmd_zset.specs.Scores.{Scores, number, score_reply}

-- ---- ZCARD, ZCOUNT

abbrev pub zcard_answer : Option Entry → Answered
zcard_answer = telling sorted_sets (λ scores. number (len scores))

-- how many scores are within two bounds
abbrev pub zcount_answer : Bound → Bound → Option Entry → Answered
zcount_answer min max = telling sorted_sets (λ scores. number (length (range_of min max scores)))

-- ---- ZSCORE, ZMSCORE

abbrev pub score_or_nil : Option ℤ → Tree
score_or_nil None = reply.null_bulk
score_or_nil (Some score) = score_reply score

-- a member's score, or nil where it is no member
abbrev pub found_score : Scores → Bytes → Tree
found_score scores member = score_or_nil (get scores member)

abbrev pub zscore_answer : Bytes → Option Entry → Answered
zscore_answer member = telling sorted_sets (λ scores. found_score scores member)

abbrev pub found_scores : List Bytes → Scores → Tree
found_scores members scores = reply.array (trees_of (map (found_score scores) members))

abbrev pub zmscore_answer : List Bytes → Option Entry → Answered
zmscore_answer members = telling sorted_sets (found_scores members)

-- ---- ZRANK, ZREVRANK

-- a place of so many, counted from the least or from the greatest pair, each of which has place 0
abbrev pub counted_from : Order → ℕ → ℕ → ℕ
counted_from Ascending count place = place
counted_from Descending count place = count - 1 - place

-- a member's place in an order
abbrev pub place_of : Order → Bytes → Scores → Option ℕ
place_of order member scores = option_map (counted_from order (len scores)) (rank_of scores member)

-- the place, or nil
abbrev pub place_reply : Option ℕ → Tree
place_reply None = reply.null_bulk
place_reply (Some place) = number place

abbrev pub rank_answer : Order → Bytes → Option Entry → Answered
rank_answer order member = telling sorted_sets (λ scores. place_reply (place_of order member scores))
