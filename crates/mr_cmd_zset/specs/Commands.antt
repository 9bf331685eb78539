-- The commands on sorted sets. Each names one key.
use Rattle.std.specs.Prelude.{length, IsTrue, Option}
use Rattle.std.specs.List.{list_all}
use Rattle.std.specs.FinMap.{len}
use Rattle.mr_map.specs.Bytes.{Bytes}
use Rattle.mr_zset.specs.Pairs.{range_of}
use Rattle.mr_keyspace.specs.Steps.{sorted_sets}
use Rattle.mr_keyspace.specs.declared.value.Entry.{Entry}
use Rattle.mr_zset_options.specs.Scored.{is_scored}
use Rattle.mr_cmd_zset.specs.declared.zset_ask.ZSetAsk.{ZSetAsk}
use Rattle.mr_cmd_zset.specs.declared.zset_ask.ZSetAsk.TheVariants as ask
use Rattle.mr_cmd_shared.specs.Answered.{Answered}
use Rattle.mr_cmd_shared.specs.Collections.{Change, changing}
use Rattle.mr_cmd_shared.specs.Commands.{Command, on_key}
use Rattle.mr_cmd_zset.specs.Scores.{Scores, number, told}
use Rattle.mr_cmd_zset.specs.Adding.{zadd, zincrby}
use Rattle.mr_cmd_zset.specs.Removing.{zrem, take_pairs, zremrangebyrank, zremrangebyscore}
use Rattle.mr_cmd_zset.specs.Telling.{found_score, found_scores, place_of, place_reply, zcard_answer, zcount_answer, zscore_answer, zmscore_answer, rank_answer}
use Rattle.mr_cmd_zset.specs.Ranges.{pairs_reply, ranked, scored, by_rank_answer, by_score_answer}

-- the key that a command names
abbrev pub key_of : ZSetAsk → Bytes
key_of (ask.ZAdd k only than reply pairs) = k
key_of (ask.ZIncrBy k by x) = k
key_of (ask.ZRem k xs) = k
key_of (ask.ZCard k) = k
key_of (ask.ZCount k min max) = k
key_of (ask.ZScore k x) = k
key_of (ask.ZMScore k xs) = k
key_of (ask.GetRank k x order) = k
key_of (ask.RangeByRank k first last order reply) = k
key_of (ask.RangeByScore k min max order limit reply) = k
key_of (ask.TakePairs k order count) = k
key_of (ask.ZRemRangeByRank k first last) = k
key_of (ask.ZRemRangeByScore k min max) = k

-- what it does there; a key of another kind is left alone
abbrev pub answer_of : ZSetAsk → Option Entry → Answered
answer_of (ask.ZAdd k only than reply pairs) = changing sorted_sets (zadd only than k reply pairs)
answer_of (ask.ZIncrBy k by x) = changing sorted_sets (zincrby k by x)
answer_of (ask.ZRem k xs) = changing sorted_sets (zrem k xs)
answer_of (ask.ZCard k) = zcard_answer
answer_of (ask.ZCount k min max) = zcount_answer min max
answer_of (ask.ZScore k x) = zscore_answer x
answer_of (ask.ZMScore k xs) = zmscore_answer xs
answer_of (ask.GetRank k x order) = rank_answer order x
answer_of (ask.RangeByRank k first last order reply) = by_rank_answer first last order reply
answer_of (ask.RangeByScore k min max order limit reply) = by_score_answer min max order limit reply
answer_of (ask.TakePairs k order count) = changing sorted_sets (take_pairs k order count)
answer_of (ask.ZRemRangeByRank k first last) = changing sorted_sets (zremrangebyrank k first last)
answer_of (ask.ZRemRangeByScore k min max) = changing sorted_sets (zremrangebyscore k min max)

-- what it does to the set there
abbrev pub change : ZSetAsk → Scores → Change Scores
change (ask.ZAdd k only than reply pairs) = zadd only than k reply pairs
change (ask.ZIncrBy k by x) = zincrby k by x
change (ask.ZRem k xs) = zrem k xs
change (ask.ZCard k) = told (λ scores. number (len scores))
change (ask.ZCount k min max) = told (λ scores. number (length (range_of min max scores)))
change (ask.ZScore k x) = told (λ scores. found_score scores x)
change (ask.ZMScore k xs) = told (found_scores xs)
change (ask.GetRank k x order) = told (λ scores. place_reply (place_of order x scores))
change (ask.RangeByRank k first last order reply) = told (λ scores. pairs_reply reply (ranked first last order scores))
change (ask.RangeByScore k min max order limit reply) = told (λ scores. pairs_reply reply (scored min max order limit scores))
change (ask.TakePairs k order count) = take_pairs k order count
change (ask.ZRemRangeByRank k first last) = zremrangebyrank k first last
change (ask.ZRemRangeByScore k min max) = zremrangebyscore k min max

abbrev pub command : ZSetAsk → Command
command asked = on_key (key_of asked) (answer_of asked)

-- the numbers that a command sets are scores
abbrev pub HasScores : ZSetAsk → Type 0
HasScores (ask.ZAdd k only than reply pairs) = IsTrue (list_all is_scored pairs)
HasScores _ = Unit {0}
