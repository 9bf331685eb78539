-- What is done for each effect, to what is stored.
use Rattle.std.specs.Prelude.{pos, List, [], ◌∷◌, Bool, false, if◌then◌else◌, Option, Some, None}
use Rattle.std.specs.Option.{option_map, option_and_then}
use Rattle.std.specs.FinMap.{empty, get, insert, remove, contains_key}
use Rattle.std.specs.Str.{bytes_eq}
use Rattle.mr_map.specs.Bytes.{Bytes}
use Rattle.mr_effect.specs.declared.effect.Effect.{Effect}
use Rattle.mr_effect.specs.declared.effect.Effect.TheVariants as effect
use Rattle.mr_bytes.specs.declared.ends.End.{End}
use Rattle.mr_keyspace.specs.Dataset.{Dataset, put_at}
use Rattle.mr_keyspace.specs.Collections.{end_item}
use Rattle.mr_keyspace.specs.Steps.{Step, lists, held, without_deadline, set_step, set_until_step, set_keeping_step, del_step, expire_step, persist_step, append_step, set_range_step, increase_step, set_fields_step, remove_fields_step, push_step, pop_step, set_item_step, insert_item_step, remove_items_step, trim_step, turn_step, add_members_step, remove_members_step, set_scores_step, remove_scores_step}
use Rattle.mr_keyspace.specs.declared.value.Value.{Value}
use Rattle.mr_keyspace.specs.declared.value.Value.TheVariants as value
use Rattle.mr_keyspace.specs.declared.value.Entry.{Entry}

-- the dataset after a step at one key
abbrev pub at_key : Step → Bytes → Dataset → Option Dataset
at_key step k m = option_map (put_at m k) (step (get m k))

-- keys are set to texts, one after another
abbrev pub with_texts : List (Bytes × Bytes) → Dataset → Dataset
with_texts [] m = m
with_texts (p ∷ ps) m = with_texts ps (insert m p.0 (without_deadline (value.Text p.1)))

-- What one key has goes to another, whatever that has. Onto itself nothing changes.
abbrev pub rename : Bytes → Bytes → Dataset → Option Dataset
rename from to m = option_map (insert (remove m from) to) (get m from)

-- the item at an end of the list at a key
abbrev pub item_at : End → Option Entry → Option Bytes
item_at end before = option_and_then (end_item end) (held lists before)

-- an item taken from one key's list and put to another's
abbrev pub carry_item : Bytes → Bytes → End → End → Dataset → Option Dataset
carry_item from to taken put m =
    option_and_then (λ item. option_and_then (at_key (push_step put (item ∷ [])) to) (at_key (pop_step taken (pos 1)) from m)) (item_at taken (get m from))

-- onto itself the one list is changed in its place
abbrev pub move_item : Bytes → Bytes → End → End → Dataset → Option Dataset
move_item from to taken put m = if bytes_eq from to then at_key (turn_step taken put) from m else carry_item from to taken put m

abbrev pub is_member : Bytes → Value → Bool
is_member x (value.Set members) = contains_key members x
is_member x _ = false

-- the key holds a set with this member
abbrev pub has_member : Bytes → Option Entry → Bool
has_member x None = false
has_member x (Some e) = is_member x e.value

-- a member taken from one key's set and put to another's
abbrev pub carry_member : Bytes → Bytes → Bytes → Dataset → Option Dataset
carry_member from to x m = option_and_then (at_key (add_members_step (x ∷ [])) to) (at_key (remove_members_step (x ∷ [])) from m)

-- undefined unless the member is in the source; onto itself nothing changes
abbrev pub move_member : Bytes → Bytes → Bytes → Dataset → Option Dataset
move_member from to x m = if has_member x (get m from) then (if bytes_eq from to then Some m else carry_member from to x m) else None

unfoldable pub change : Effect → Dataset → Option Dataset
change (effect.Set k text) = at_key (set_step text) k
change (effect.SetUntil k text d) = at_key (set_until_step text d) k
change (effect.SetKeeping k text) = at_key (set_keeping_step text) k
change (effect.Del k) = at_key del_step k
change (effect.Expire k d) = at_key (expire_step d) k
change (effect.Persist k) = at_key persist_step k
change (effect.SetFields k pairs) = at_key (set_fields_step pairs) k
change (effect.RemoveFields k fields) = at_key (remove_fields_step fields) k
change (effect.Push k end items) = at_key (push_step end items) k
change (effect.Pop k end count) = at_key (pop_step end count) k
change (effect.SetItem k place item) = at_key (set_item_step place item) k
change (effect.InsertItem k side pivot item) = at_key (insert_item_step side pivot item) k
change (effect.RemoveItems k count item) = at_key (remove_items_step count item) k
change (effect.Trim k first last) = at_key (trim_step first last) k
change (effect.MoveItem from to taken put) = move_item from to taken put
change (effect.AddMembers k members) = at_key (add_members_step members) k
change (effect.RemoveMembers k members) = at_key (remove_members_step members) k
change (effect.MoveMember from to member) = move_member from to member
change (effect.MSet pairs) = λ m. Some (with_texts pairs m)
change (effect.Append k more) = at_key (append_step more) k
change (effect.SetRange k offset part) = at_key (set_range_step offset part) k
change (effect.Increase k by) = at_key (increase_step by) k
change (effect.Rename from to) = rename from to
change effect.Clear = λ m. Some empty
change effect.Ping = λ m. Some m
change (effect.SetScores k scores) = at_key (set_scores_step scores) k
change (effect.RemoveScores k members) = at_key (remove_scores_step members) k

-- the effect takes away, or does nothing
abbrev pub NeedsNoMemory : Effect → Type 0
NeedsNoMemory (effect.Del k) = Unit {0}
NeedsNoMemory effect.Clear = Unit {0}
NeedsNoMemory effect.Ping = Unit {0}
NeedsNoMemory (effect.RemoveFields k fields) = Unit {0}
NeedsNoMemory (effect.Pop k end count) = Unit {0}
NeedsNoMemory (effect.RemoveItems k count item) = Unit {0}
NeedsNoMemory (effect.Trim k first last) = Unit {0}
NeedsNoMemory (effect.RemoveMembers k members) = Unit {0}
NeedsNoMemory (effect.RemoveScores k members) = Unit {0}
NeedsNoMemory _ = ⊥
