-- The words that a command on sorted sets carries.
use Rattle.std.specs.Prelude.{ℕ, ℤ, List, [], ◌∷◌}
use Rattle.mr_cmd_zset.specs.declared.zset_ask.ZSetAsk.{ZSetAsk}
use Rattle.mr_cmd_zset.specs.declared.zset_ask.ZSetAsk.TheVariants as ask

-- without the scores
abbrev pub members_of : List (ℤ × List ℕ) → List (List ℕ)
members_of [] = []
members_of (pair ∷ pairs) = pair.1 ∷ members_of pairs

abbrev pub zset_words : ZSetAsk → List (List ℕ)
zset_words (ask.ZAdd key condition comparison reply pairs) = key ∷ members_of pairs
zset_words (ask.ZIncrBy key by member) = key ∷ member ∷ []
zset_words (ask.ZRem key members) = key ∷ members
zset_words (ask.ZCard key) = key ∷ []
zset_words (ask.ZCount key min max) = key ∷ []
zset_words (ask.ZScore key member) = key ∷ member ∷ []
zset_words (ask.ZMScore key members) = key ∷ members
zset_words (ask.GetRank key member order) = key ∷ member ∷ []
zset_words (ask.RangeByRank key first last order reply) = key ∷ []
zset_words (ask.RangeByScore key min max order limit reply) = key ∷ []
zset_words (ask.TakePairs key order count) = key ∷ []
zset_words (ask.ZRemRangeByRank key first last) = key ∷ []
zset_words (ask.ZRemRangeByScore key min max) = key ∷ []
