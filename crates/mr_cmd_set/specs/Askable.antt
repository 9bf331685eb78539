-- Which commands on sets words can ask for.
use Rattle.std.specs.Prelude.{◌≢◌, []}
use Rattle.mr_arguments.specs.Askable.{IsCount}
use Rattle.mr_cmd_set.specs.declared.set_ask.SetAsk.{SetAsk}
use Rattle.mr_cmd_set.specs.declared.set_ask.SetAsk.TheVariants as set

abbrev pub SetIsAskable : SetAsk → Type 0
SetIsAskable (set.SAdd key members) = members ≢ []
SetIsAskable (set.SRem key members) = members ≢ []
SetIsAskable (set.SMIsMember key members) = members ≢ []
SetIsAskable (set.SPop key count) = IsCount count
SetIsAskable (set.SRandMember key count) = IsCount count
SetIsAskable (set.Combine operation keys) = keys ≢ []
SetIsAskable _ = Unit {0}
