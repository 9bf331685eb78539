-- The words that a command on sorted sets is spelled by.
use Rattle.std.specs.Prelude.{◌≡◌, ◌⊎◌, ℕ, ℤ, List, [], ◌∷◌, ◌++◌, map}
use Rattle.mr_arguments.specs.Spelling.{Part, Word, Number, Score, count_part, AreParts, AreWithOptions, AreAroundOptions}
use Rattle.mr_arguments.specs.declared.name.Name.{Name}
use Rattle.mr_arguments.specs.declared.name.Name.TheVariants as name
use Rattle.mr_zset_options.specs.declared.range_options.RangeOption.TheVariants as range
use Rattle.mr_zset_options.specs.declared.choices.Order.{Order}
use Rattle.mr_zset_options.specs.declared.choices.Order.TheVariants.{Ascending, Descending}
use Rattle.mr_cmd_zset.specs.declared.zset_ask.ZSetAsk.{ZSetAsk}
use Rattle.mr_cmd_zset.specs.declared.zset_ask.ZSetAsk.TheVariants as ask
use Rattle.mr_zset_options.specs.Spelled.{condition_option, comparison_option, changed_option, order_option, scores_option, limit_option, bound_parts, range_word_option}

-- scores, each with its member behind it
abbrev pub pair_parts : List (ℤ × List ℕ) → List Part
pair_parts [] = []
pair_parts (pair ∷ pairs) = Score pair.0 ∷ Word pair.1 ∷ pair_parts pairs

-- of a place among the pairs in this order
abbrev pub rank_name : Order → Name
rank_name Ascending = name.ZRank
rank_name Descending = name.ZRevRank

-- of a range of scores in this order
abbrev pub score_range_name : Order → Name
score_range_name Ascending = name.ZRangeByScore
score_range_name Descending = name.ZRevRangeByScore

-- of what takes the first pairs in this order
abbrev pub pop_name : Order → Name
pop_name Ascending = name.ZPopMin
pop_name Descending = name.ZPopMax

-- These words, behind this name, spell the command. Some commands are spelled in two ways.
abbrev pub ZSetSpells : Name → List (List ℕ) → ZSetAsk → Type 0
ZSetSpells called words (ask.ZAdd key condition comparison reply pairs) =
    (called ≡ name.ZAdd) × AreAroundOptions words (Word key ∷ []) (condition_option condition ++ comparison_option comparison ++ changed_option reply) (pair_parts pairs)
ZSetSpells called words (ask.ZIncrBy key by member) = (called ≡ name.ZIncrBy) × AreParts words (Word key ∷ Score by ∷ Word member ∷ [])
ZSetSpells called words (ask.ZRem key members) = (called ≡ name.ZRem) × AreParts words (Word key ∷ map Word members)
ZSetSpells called words (ask.ZCard key) = (called ≡ name.ZCard) × AreParts words (Word key ∷ [])
ZSetSpells called words (ask.ZCount key min max) = (called ≡ name.ZCount) × AreParts words (Word key ∷ bound_parts Ascending min max)
ZSetSpells called words (ask.ZScore key member) = (called ≡ name.ZScore) × AreParts words (Word key ∷ Word member ∷ [])
ZSetSpells called words (ask.ZMScore key members) = (called ≡ name.ZMScore) × AreParts words (Word key ∷ map Word members)
ZSetSpells called words (ask.GetRank key member order) = (called ≡ rank_name order) × AreParts words (Word key ∷ Word member ∷ [])
ZSetSpells called words (ask.RangeByRank key first last order reply) =
    ((called ≡ name.ZRange) × AreWithOptions words (Word key ∷ Number first ∷ Number last ∷ []) (order_option order ++ scores_option reply))
    ⊎ ((called ≡ name.ZRevRange) × (order ≡ Descending) × AreWithOptions words (Word key ∷ Number first ∷ Number last ∷ []) (scores_option reply))
ZSetSpells called words (ask.RangeByScore key min max order limit reply) =
    ((called ≡ name.ZRange) × AreWithOptions words (Word key ∷ bound_parts order min max) (range_word_option range.ByScore ++ order_option order ++ limit_option limit ++ scores_option reply))
    ⊎ ((called ≡ score_range_name order) × AreWithOptions words (Word key ∷ bound_parts order min max) (limit_option limit ++ scores_option reply))
ZSetSpells called words (ask.TakePairs key order count) = (called ≡ pop_name order) × AreParts words (Word key ∷ count_part count)
ZSetSpells called words (ask.ZRemRangeByRank key first last) = (called ≡ name.ZRemRangeByRank) × AreParts words (Word key ∷ Number first ∷ Number last ∷ [])
ZSetSpells called words (ask.ZRemRangeByScore key min max) = (called ≡ name.ZRemRangeByScore) × AreParts words (Word key ∷ bound_parts Ascending min max)
