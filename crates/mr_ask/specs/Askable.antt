-- Which commands words can ask for.
use Rattle.mr_cmd_zset.specs.Askable.{ZSetIsAskable}
use Rattle.mr_ask.specs.declared.ask.Ask.{Ask}
use Rattle.mr_ask.specs.declared.ask.Ask.TheVariants as ask
use Rattle.mr_cmd_string.specs.Askable.{TextIsAskable}
use Rattle.mr_cmd_key.specs.Askable.{KeyIsAskable}
use Rattle.mr_cmd_hash.specs.Askable.{HashIsAskable}
use Rattle.mr_cmd_list.specs.Askable.{ListIsAskable}
use Rattle.mr_cmd_set.specs.Askable.{SetIsAskable}
use Rattle.mr_cmd_node.specs.Askable.{NodeIsAskable}

abbrev pub IsAskable : Ask → Type 0
IsAskable (ask.Texts command) = TextIsAskable command
IsAskable (ask.Keys command) = KeyIsAskable command
IsAskable (ask.Hashes command) = HashIsAskable command
IsAskable (ask.Lists command) = ListIsAskable command
IsAskable (ask.Sets command) = SetIsAskable command
IsAskable (ask.SortedSets command) = ZSetIsAskable command
IsAskable (ask.Server command) = Unit {0}
IsAskable (ask.Node command) = NodeIsAskable command
