-- An item taken from an end of one list and put at an end of another, or of the same.
use Rattle.std.specs.Prelude.{List, [], ◌∷◌, Bool, true, false, ◌||◌, if◌then◌else◌, Option, Some, None}
use Rattle.std.specs.FinMap.{get}
use Rattle.std.specs.Str.{bytes_eq}
use Rattle.mr_map.specs.Bytes.{Bytes}
use Rattle.mr_resp.specs.Replies as reply
use Rattle.mr_resp.specs.Replies.{Tree}
use Rattle.mr_value.specs.Lists.{are_equal}
use Rattle.mr_bytes.specs.declared.ends.End.{End}
use Rattle.mr_bytes.specs.declared.ends.End.TheVariants.{Left, Right}
use Rattle.mr_keyspace.specs.Dataset.{Dataset, put_at}
use Rattle.mr_keyspace.specs.Collections.{end_item, popped, put_item}
use Rattle.mr_keyspace.specs.Steps.{lists, held, entry_of, deadline_of}
use Rattle.mr_keyspace.specs.declared.value.Entry.{Entry}
use Rattle.mr_effect.specs.declared.effect.Effect.{Effect}
use Rattle.mr_effect.specs.declared.effect.Effect.TheVariants as effect
use Rattle.mr_cmd_shared.specs.Answered.{Answered, wrong_kind}
use Rattle.mr_cmd_shared.specs.Outcomes.{Outcome, at_key}
use Rattle.mr_cmd_shared.specs.Commands.{Command}
use Rattle.mr_cmd_shared.specs.Collections.{Change}
use Rattle.mr_cmd_list.specs.Lists.{on_list, unchanged, unless}

-- ---- onto itself: the item, nil where the key is absent

abbrev pub is_same_end : End → End → Bool
is_same_end Left Left = true
is_same_end Right Right = true
is_same_end _ _ = false

-- The list is turned in its place. It is the same where the item comes back to its end, and where all items are equal.
abbrev pub with_rotated : Bytes → End → End → Option Bytes → List Bytes → Change (List Bytes)
with_rotated k taken put None xs = unchanged reply.null_bulk xs
with_rotated k taken put (Some item) xs = record {
  reply = reply.bytes item;
  value = put_item put item (popped taken 1 xs);
  effects = unless (is_same_end taken put || are_equal xs) (effect.MoveItem k k taken put);
}

abbrev pub rotate_answer : Bytes → End → End → Option Entry → Answered
rotate_answer k taken put = on_list reply.null_bulk (λ xs. with_rotated k taken put (end_item taken xs) xs)

-- ---- from one key to another

-- what is answered, what becomes of the entries at the two keys, and the effects
pub record Carry : Type 0 where
  pub reply : Tree
  pub source : Option Entry
  pub target : Option Entry
  pub effects : List Effect

-- nothing changes
abbrev pub kept_both : Tree → Option Entry → Option Entry → Carry
kept_both answer source target = record { reply = answer; source = source; target = target; effects = [] }

-- The item leaves the one list and comes to the other. Each key keeps its deadline, and a list without items goes.
abbrev pub carry_item : Bytes → Bytes → End → End → Option Bytes → List Bytes → List Bytes → Option Entry → Option Entry → Carry
carry_item from to taken put None xs ys source target = kept_both reply.null_bulk source target
carry_item from to taken put (Some item) xs ys source target = record {
  reply = reply.bytes item;
  source = entry_of lists (deadline_of source) (popped taken 1 xs);
  target = entry_of lists (deadline_of target) (put_item put item ys);
  effects = effect.MoveItem from to taken put ∷ [];
}

abbrev pub carry_to : Bytes → Bytes → End → End → List Bytes → Option (List Bytes) → Option Entry → Option Entry → Carry
carry_to from to taken put xs None source target = kept_both wrong_kind source target
carry_to from to taken put xs (Some ys) source target = carry_item from to taken put (end_item taken xs) xs ys source target

abbrev pub carry_from : Bytes → Bytes → End → End → Option (List Bytes) → Option Entry → Option Entry → Carry
carry_from from to taken put None source target = kept_both wrong_kind source target
carry_from from to taken put (Some xs) source target = carry_to from to taken put xs (held lists target) source target

-- nil where the source is absent, whatever the other key holds
abbrev pub carry : Bytes → Bytes → End → End → Option Entry → Option Entry → Carry
carry from to taken put None target = kept_both reply.null_bulk None target
carry from to taken put (Some e) target = carry_from from to taken put (lists.of e.value) (Some e) target

-- at two different keys
abbrev pub carried : Bytes → Bytes → Carry → Dataset → Outcome
carried from to c m = record { reply = c.reply; after = put_at (put_at m from c.source) to c.target; effects = c.effects }

-- ---- LMOVE from to LEFT|RIGHT LEFT|RIGHT

abbrev pub moved : Bytes → Bytes → End → End → Dataset → Outcome
moved from to taken put m = if bytes_eq from to then at_key from (rotate_answer from taken put) m else carried from to (carry from to taken put (get m from) (get m to)) m

abbrev pub moving : Bytes → Bytes → End → End → Command
moving from to taken put = record { keys = from ∷ to ∷ []; outcome = moved from to taken put }
