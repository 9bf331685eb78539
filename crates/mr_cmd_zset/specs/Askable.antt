-- Which commands on sorted sets words can ask for.
use Rattle.std.specs.Prelude.{◌≡◌, ◌≢◌, [], false, Option, Some, None}
use Rattle.mr_arguments.specs.Askable.{IsI64, IsCount}
use Rattle.mr_zset_options.specs.AddOptions.{disagree}
use Rattle.mr_zset_options.specs.declared.choices.Limit.{Limit}
use Rattle.mr_cmd_zset.specs.declared.zset_ask.ZSetAsk.{ZSetAsk}
use Rattle.mr_cmd_zset.specs.declared.zset_ask.ZSetAsk.TheVariants as ask

-- numbers of 64 bits, where LIMIT is there
abbrev pub LimitIsAskable : Option Limit → Type 0
LimitIsAskable None = Unit {0}
LimitIsAskable (Some limit) = IsI64 limit.offset × IsI64 limit.count

-- places and counts are numbers of 64 bits, lists have an item, and scores of members that aren't there aren't compared
abbrev pub ZSetIsAskable : ZSetAsk → Type 0
ZSetIsAskable (ask.ZAdd key condition comparison reply pairs) = (pairs ≢ []) × (disagree condition comparison ≡ false)
ZSetIsAskable (ask.ZRem key members) = members ≢ []
ZSetIsAskable (ask.ZMScore key members) = members ≢ []
ZSetIsAskable (ask.RangeByRank key first last order reply) = IsI64 first × IsI64 last
ZSetIsAskable (ask.RangeByScore key min max order limit reply) = LimitIsAskable limit
ZSetIsAskable (ask.TakePairs key order count) = IsCount count
ZSetIsAskable (ask.ZRemRangeByRank key first last) = IsI64 first × IsI64 last
ZSetIsAskable _ = Unit {0}
