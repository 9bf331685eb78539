-- What each command on lists does.
use Rattle.std.specs.Prelude.{Option}
use Rattle.mr_bytes.specs.declared.ends.End.TheVariants.{Left, Right}
use Rattle.mr_keyspace.specs.declared.value.Entry.{Entry}
use Rattle.mr_cmd_list.specs.declared.list_ask.ListAsk.{ListAsk}
use Rattle.mr_cmd_list.specs.declared.list_ask.ListAsk.TheVariants as ask
use Rattle.mr_cmd_shared.specs.Answered.{Answered}
use Rattle.mr_cmd_shared.specs.Commands.{Command, on_key}
use Rattle.mr_cmd_list.specs.Telling.{llen_answer, lrange_answer, lindex_answer}
use Rattle.mr_cmd_list.specs.Pushes.{push_answer}
use Rattle.mr_cmd_list.specs.Pops.{pop_answer}
use Rattle.mr_cmd_list.specs.Edits.{lset_answer, linsert_answer, lrem_answer, ltrim_answer}
use Rattle.mr_cmd_list.specs.Moves.{rotate_answer, moving}

-- what a command does at a key, where it names no other
abbrev pub answer_of : ListAsk → Option Entry → Answered
answer_of (ask.Push k end to items) = push_answer k end to items
answer_of (ask.Pop k end count) = pop_answer k end count
answer_of (ask.LLen k) = llen_answer
answer_of (ask.LRange k first last) = lrange_answer first last
answer_of (ask.LIndex k index) = lindex_answer index
answer_of (ask.LSet k index item) = lset_answer k index item
answer_of (ask.LInsert k side pivot item) = linsert_answer k side pivot item
answer_of (ask.LRem k count item) = lrem_answer k count item
answer_of (ask.LTrim k first last) = ltrim_answer k first last
answer_of (ask.LMove from to taken put) = rotate_answer from taken put
answer_of (ask.RPopLPush from to) = rotate_answer from Right Left

abbrev pub command : ListAsk → Command
command (ask.Push k end to items) = on_key k (answer_of (ask.Push k end to items))
command (ask.Pop k end count) = on_key k (answer_of (ask.Pop k end count))
command (ask.LLen k) = on_key k (answer_of (ask.LLen k))
command (ask.LRange k first last) = on_key k (answer_of (ask.LRange k first last))
command (ask.LIndex k index) = on_key k (answer_of (ask.LIndex k index))
command (ask.LSet k index item) = on_key k (answer_of (ask.LSet k index item))
command (ask.LInsert k side pivot item) = on_key k (answer_of (ask.LInsert k side pivot item))
command (ask.LRem k count item) = on_key k (answer_of (ask.LRem k count item))
command (ask.LTrim k first last) = on_key k (answer_of (ask.LTrim k first last))
command (ask.LMove from to taken put) = moving from to taken put
command (ask.RPopLPush from to) = moving from to Right Left
