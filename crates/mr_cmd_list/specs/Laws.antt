-- What commands on lists tell of what others left.
use Rattle.std.specs.Prelude.{◌≡◌, ◌≢◌, ℤ, pos, negsuc, List, ◌++◌, length, reverse, Option, Some, None}
use Rattle.std.specs.FinMap.{get}
use Rattle.mr_map.specs.Bytes.{Bytes}
use Rattle.mr_bytes.specs.Window.{window_of, windowed}
use Rattle.mr_bytes.specs.declared.ends.End.{End}
use Rattle.mr_bytes.specs.declared.ends.End.TheVariants.{Left, Right}
use Rattle.mr_resp.specs.Replies as reply
use Rattle.mr_keyspace.specs.Dataset.{Dataset}
use Rattle.mr_keyspace.specs.Steps.{lists, held}
use Rattle.mr_keyspace.specs.declared.value.Entry.{Entry}
use Rattle.mr_cmd_list.specs.declared.list_ask.PushTo.{PushTo}
use Rattle.mr_cmd_list.specs.declared.list_ask.PushTo.TheVariants.{AnyKey}
use Rattle.mr_cmd_shared.specs.Answered.{wrong_kind}
use Rattle.mr_cmd_list.specs.Lists.{items_reply}
use Rattle.mr_cmd_list.specs.Telling.{llen_answer, lrange_answer, lindex_answer}
use Rattle.mr_cmd_list.specs.Pushes.{push_answer}
use Rattle.mr_cmd_list.specs.Pops.{pop_answer}
use Rattle.mr_cmd_list.specs.Moves.{moved}

-- the key holds these items; an absent one holds none
abbrev pub HoldsItems : Option Entry → List Bytes → Type 0
HoldsItems before xs = held lists before ≡ Some xs

-- what LINDEX calls the item at an end
abbrev pub end_index : End → ℤ
end_index Left = pos 0
end_index Right = negsuc 0

-- LPUSH and RPUSH answer what LLEN then answers
abbrev pub PushAnswersLength : Type 0
PushAnswersLength = (k : Bytes) (end : End) (to : PushTo) (items : List Bytes) (before : Option Entry) → (push_answer k end to items before).reply ≡ (llen_answer (push_answer k end to items before).entry).reply

-- the list after a push: on the right the items stand behind those before, on the left in front of them, the last one first
abbrev pub with_pushed : End → List Bytes → List Bytes → List Bytes
with_pushed Left items xs = reverse items ++ xs
with_pushed Right items xs = xs ++ items

-- LRANGE is the cut of that list
abbrev pub PushIsRead : Type 0
PushIsRead = (k : Bytes) (end : End) (items xs : List Bytes) (first last : ℤ) (before : Option Entry) → HoldsItems before xs
    → (lrange_answer first last (push_answer k end AnyKey items before).entry).reply ≡ items_reply (windowed (window_of first last (length (with_pushed end items xs))) (with_pushed end items xs))

-- LPOP and RPOP answer what LINDEX showed at that end
abbrev pub PopTakesTheEnd : Type 0
PopTakesTheEnd = (k : Bytes) (end : End) (before : Option Entry) → (pop_answer k end None before).reply ≡ (lindex_answer (end_index end) before).reply

-- LMOVE answers what LINDEX showed at the end that it takes from
abbrev pub MoveTakesTheEnd : Type 0
MoveTakesTheEnd = (from to : Bytes) (taken put : End) (m : Dataset) → (moved from to taken put m).reply ≢ wrong_kind → (moved from to taken put m).reply ≡ (lindex_answer (end_index taken) (get m from)).reply

-- .. and LINDEX then shows it at the end where it was put
abbrev pub MovePutsAtTheEnd : Type 0
MovePutsAtTheEnd = (from to item : Bytes) (taken put : End) (m : Dataset) → (moved from to taken put m).reply ≡ reply.bytes item → (lindex_answer (end_index put) (get (moved from to taken put m).after to)).reply ≡ reply.bytes item
