-- Items put at an end of a list.
use Rattle.std.specs.Prelude.{pos, ◌+◌, List, map, length, Option}
use Rattle.mr_map.specs.Bytes.{Bytes}
use Rattle.mr_resp.specs.Replies as reply
use Rattle.mr_bytes.specs.declared.ends.End.{End}
use Rattle.mr_keyspace.specs.Collections.{pushed}
use Rattle.mr_keyspace.specs.Steps.{lists}
use Rattle.mr_keyspace.specs.declared.value.Entry.{Entry}
use Rattle.mr_effect.specs.declared.effect.Effect.{Effect}
use Rattle.mr_effect.specs.declared.effect.Effect.TheVariants as effect
use Rattle.mr_cmd_list.specs.declared.list_ask.PushTo.{PushTo}
use Rattle.mr_cmd_list.specs.declared.list_ask.PushTo.TheVariants.{AnyKey, ExistingKey}
use Rattle.mr_cmd_shared.specs.Answered.{Answered}
use Rattle.mr_keyspace.specs.Cuts.{cut}
use Rattle.mr_cmd_shared.specs.Collections.{Change, changing}
use Rattle.mr_cmd_list.specs.Lists.{on_list}

-- one effect for each group of items
abbrev pub push_effects : Bytes → End → List (List Bytes) → List Effect
push_effects k end groups = map (effect.Push k end) groups

abbrev pub push_change : Bytes → End → List Bytes → List Bytes → Change (List Bytes)
push_change k end items xs = record {
  reply = reply.int (pos (length xs + length items));
  value = pushed end items xs;
  effects = push_effects k end (cut items);
}

-- LPUSH key item [item ..], RPUSH: the new length. LPUSHX, RPUSHX: 0 where the key is absent.
abbrev pub push_answer : Bytes → End → PushTo → List Bytes → Option Entry → Answered
push_answer k end AnyKey items = changing lists (push_change k end items)
push_answer k end ExistingKey items = on_list (reply.int (pos 0)) (push_change k end items)
