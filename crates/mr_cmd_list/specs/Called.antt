-- The names of commands on lists.
use Rattle.mr_bytes.specs.declared.ends.End.TheVariants.{Left, Right}
use Rattle.mr_arguments.specs.declared.name.Name.{Name}
use Rattle.mr_arguments.specs.declared.name.Name.TheVariants as name
use Rattle.mr_cmd_list.specs.declared.list_ask.PushTo.TheVariants.{AnyKey, ExistingKey}
use Rattle.mr_cmd_list.specs.declared.list_ask.ListAsk.{ListAsk}
use Rattle.mr_cmd_list.specs.declared.list_ask.ListAsk.TheVariants as list

-- of a command on lists
abbrev pub list_name : ListAsk → Name
list_name (list.Push key Left AnyKey items) = name.LPush
list_name (list.Push key Right AnyKey items) = name.RPush
list_name (list.Push key Left ExistingKey items) = name.LPushX
list_name (list.Push key Right ExistingKey items) = name.RPushX
list_name (list.Pop key Left count) = name.LPop
list_name (list.Pop key Right count) = name.RPop
list_name (list.LLen key) = name.LLen
list_name (list.LRange key first last) = name.LRange
list_name (list.LIndex key index) = name.LIndex
list_name (list.LSet key index item) = name.LSet
list_name (list.LInsert key side pivot item) = name.LInsert
list_name (list.LRem key count item) = name.LRem
list_name (list.LTrim key first last) = name.LTrim
list_name (list.LMove from to taken put) = name.LMove
list_name (list.RPopLPush from to) = name.RPopLPush
