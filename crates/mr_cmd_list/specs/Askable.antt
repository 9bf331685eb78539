-- Which commands on lists words can ask for.
use Rattle.std.specs.Prelude.{◌≢◌, []}
use Rattle.mr_arguments.specs.Askable.{IsI64, IsCount}
use Rattle.mr_cmd_list.specs.declared.list_ask.ListAsk.{ListAsk}
use Rattle.mr_cmd_list.specs.declared.list_ask.ListAsk.TheVariants as list

abbrev pub ListIsAskable : ListAsk → Type 0
ListIsAskable (list.Push key end to items) = items ≢ []
ListIsAskable (list.Pop key end count) = IsCount count
ListIsAskable (list.LRange key first last) = IsI64 first × IsI64 last
ListIsAskable (list.LIndex key index) = IsI64 index
ListIsAskable (list.LSet key index item) = IsI64 index
ListIsAskable (list.LRem key count item) = IsI64 count
ListIsAskable (list.LTrim key first last) = IsI64 first × IsI64 last
ListIsAskable _ = Unit {0}
