-- ZREM, ZPOPMIN, ZPOPMAX, ZREMRANGEBYRANK, ZREMRANGEBYSCORE: members go.
use Rattle.std.specs.Prelude.{ℕ, ℤ, List, map, take, length, Option}
use Rattle.std.specs.FinMap.{len}
use Rattle.mr_map.specs.Bytes.{Bytes}
use Rattle.mr_bytes.specs.Window.{window_of, windowed}
use Rattle.mr_zset.specs.Pairs.{pairs_of, range_of}
use Rattle.mr_zset.specs.declared.bound.Bound.{Bound}
use Rattle.mr_keyspace.specs.Collections.{without_scores}
pub use Rattle.mr_keyspace.specs.Collections.{as_set}
use Rattle.mr_zset_options.specs.declared.choices.Order.{Order}
use Rattle.mr_zset_options.specs.declared.choices.RangeReply.TheVariants.{WithScores}
use Rattle.mr_cmd_shared.specs.Collections.{Change}
use Rattle.mr_cmd_shared.specs.Numbers.{count_or_one}
use Rattle.mr_cmd_zset.specs.Scores.{Scores, number, pairs_in, lost, reduced_to}
use Rattle.mr_cmd_zset.specs.Ranges.{pairs_reply}

-- the members of pairs
abbrev pub members_of : List (Bytes × ℤ) → List Bytes
members_of ps = map (λ (p : Bytes × ℤ). p.0) ps

-- members go, where they are there, and their number is answered
abbrev pub remove_all : Bytes → List Bytes → Scores → Change Scores
remove_all k xs s = reduced_to k (number (length (lost s (without_scores xs s)))) s (without_scores xs s)

-- ZREM key member [member ..]
abbrev pub zrem : Bytes → List Bytes → Scores → Change Scores
zrem k xs s = remove_all k xs s

-- ZREMRANGEBYRANK key first last: the pairs in the window of all pairs in order
abbrev pub zremrangebyrank : Bytes → ℤ → ℤ → Scores → Change Scores
zremrangebyrank k first last s = remove_all k (members_of (windowed (window_of first last (len s)) (pairs_of s))) s

-- ZREMRANGEBYSCORE key min max
abbrev pub zremrangebyscore : Bytes → Bound → Bound → Scores → Change Scores
zremrangebyscore k min max s = remove_all k (members_of (range_of min max s)) s

-- ---- ZPOPMIN key [count], ZPOPMAX: without a count one pair

-- the first pairs in this order
abbrev pub taken : Order → Option ℕ → Scores → List (Bytes × ℤ)
taken order count s = take (count_or_one count) (pairs_in order s)

-- each member, and behind it its score
abbrev pub take_pairs : Bytes → Order → Option ℕ → Scores → Change Scores
take_pairs k order count s = reduced_to k (pairs_reply WithScores (taken order count s)) s (without_scores (members_of (taken order count s)) s)
