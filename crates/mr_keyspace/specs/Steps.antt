-- What each effect makes of the entry at its key.
use Rattle.std.specs.Prelude.{ℤ, ◌+◌, List, [], ◌++◌, length, codes, slice_set, slice_range, insert, unsigned_abs, Bool, false, ◌==◌, if◌then◌else◌, Option, Some, None}
use Rattle.std.specs.Option.{option_map, option_and_then}
use Rattle.std.specs.FinMap.{empty, len}
use Rattle.mr_map.specs.Bytes.{Bytes, ByteMap}
use Rattle.mr_value.specs.Lists.{without}
use Rattle.mr_bytes.specs.Texts.{overwritten}
use Rattle.mr_keyspace.specs.Texts.{fitting, increased}
use Rattle.mr_keyspace.specs.Collections.{with_fields, without_fields, with_members, without_members, with_scores, without_scores, pushed, may_take, popped, turned, is_place_of, is_part_of, place_beside}
use Rattle.mr_keyspace.specs.declared.value.Value.{Value}
use Rattle.mr_keyspace.specs.declared.value.Value.TheVariants as value
use Rattle.mr_keyspace.specs.declared.value.Entry.{Entry}
use Rattle.mr_bytes.specs.declared.ends.End.{End}
use Rattle.mr_bytes.specs.declared.ends.Side.{Side}

-- A step says what becomes of the entry at one key. It answers nothing where it is undefined.
abbrev pub Step : Type 0
Step = Option Entry → Option (Option Entry)

-- ---- texts, and keys of any kind

abbrev pub without_deadline : Value → Entry
without_deadline v = record { value = v; deadline = None }

-- whatever the key holds, it holds this text, without a deadline
abbrev pub set_step : Bytes → Step
set_step text before = Some (Some (without_deadline (value.Text text)))

abbrev pub deadline_of : Option Entry → Option ℤ
deadline_of None = None
deadline_of (Some e) = e.deadline

-- .. and the deadline stays
abbrev pub set_keeping_step : Bytes → Step
set_keeping_step text before = Some (Some (record { value = value.Text text; deadline = deadline_of before }))

-- .. until this moment
abbrev pub set_until_step : Bytes → ℤ → Step
set_until_step text d before = Some (Some (record { value = value.Text text; deadline = Some d }))

-- the key goes, where it is there
abbrev pub del_step : Step
del_step before = Some None

-- undefined where the key isn't there
abbrev pub deadline_step : Option ℤ → Step
deadline_step d None = None
deadline_step d (Some e) = Some (Some (record { value = e.value; deadline = d }))

abbrev pub expire_step : ℤ → Step
expire_step d = deadline_step (Some d)

abbrev pub persist_step : Step
persist_step = deadline_step None

-- ---- kinds of values

-- a kind of value: what an absent key counts as, what a value of the kind is, which ones go as they have no elements, and the value
pub record Kind (X : Type 0) : Type 0 where
  pub none : X
  pub of : Value → Option X
  pub is_none : X → Bool
  pub value : X → Value

abbrev pub text_of : Value → Option Bytes
text_of (value.Text text) = Some text
text_of _ = None

abbrev pub hash_of : Value → Option (ByteMap Bytes)
hash_of (value.Hash fields) = Some fields
hash_of _ = None

abbrev pub list_of : Value → Option (List Bytes)
list_of (value.List items) = Some items
list_of _ = None

abbrev pub set_of : Value → Option (ByteMap (Unit {0}))
set_of (value.Set members) = Some members
set_of _ = None

abbrev pub sorted_set_of : Value → Option (ByteMap ℤ)
sorted_set_of (value.SortedSet scores) = Some scores
sorted_set_of _ = None

-- texts, where an absent key counts as this one; an empty text stays as others do
abbrev pub strings : Bytes → Kind Bytes
strings absent = record { none = absent; of = text_of; is_none = λ text. false; value = value.Text }

abbrev pub hashes : Kind (ByteMap Bytes)
hashes = record { none = empty; of = hash_of; is_none = λ fields. len fields == 0; value = value.Hash }

abbrev pub lists : Kind (List Bytes)
lists = record { none = []; of = list_of; is_none = λ items. length items == 0; value = value.List }

abbrev pub sets : Kind (ByteMap (Unit {0}))
sets = record { none = empty; of = set_of; is_none = λ members. len members == 0; value = value.Set }

abbrev pub sorted_sets : Kind (ByteMap ℤ)
sorted_sets = record { none = empty; of = sorted_set_of; is_none = λ scores. len scores == 0; value = value.SortedSet }

module _ {X : Type 0} (kind : Kind X) where
  -- what a key holds: as an absent key counts where there is none, and nothing where it holds another kind
  abbrev pub held : Option Entry → Option X
  held None = Some kind.none
  held (Some e) = kind.of e.value

  -- the entry of a collection; one without elements has none
  abbrev pub entry_of : Option ℤ → X → Option Entry
  entry_of deadline x = if kind.is_none x then None else Some (record { value = kind.value x; deadline = deadline })

  -- What the key holds becomes what f makes of it, and the deadline stays. Another kind of value is undefined.
  abbrev pub on : (X → Option X) → Step
  on f before = option_and_then (λ x. option_map (entry_of (deadline_of before)) (f x)) (held before)

  -- No change, at a key that holds this kind or is absent. Another kind of value is undefined.
  abbrev pub same : Step
  same before = option_map (λ x. before) (held before)

-- ---- texts that are there

-- undefined past the word limit
abbrev pub append_step : Bytes → Step
append_step more = on (strings []) (λ text. fitting (text ++ more))

-- undefined past the word limit; an empty part changes nothing, and makes no key
abbrev pub set_range_step : ℤ → Bytes → Step
set_range_step offset part = if length part == 0 then same (strings []) else on (strings []) (λ text. fitting (overwritten (unsigned_abs offset) part text))

-- an absent key counts as 0; undefined where the text spells no number, and where the sum hasn't 64 bits
abbrev pub increase_step : ℤ → Step
increase_step by = on (strings (codes "0")) (increased by)

-- ---- hashes

abbrev pub set_fields_step : List (Bytes × Bytes) → Step
set_fields_step pairs = on hashes (λ fields. Some (with_fields pairs fields))

-- a field that isn't there: no change
abbrev pub remove_fields_step : List Bytes → Step
remove_fields_step names = on hashes (λ fields. Some (without_fields names fields))

-- ---- lists

abbrev pub push_step : End → List Bytes → Step
push_step end new = on lists (λ items. Some (pushed end new items))

-- undefined unless 1 <= n <= length
abbrev pub pop_step : End → ℤ → Step
pop_step end n = on lists (λ items. if may_take n (length items) then Some (popped end (unsigned_abs n) items) else None)

-- undefined unless the place is below the length
abbrev pub set_item_step : ℤ → Bytes → Step
set_item_step place item = on lists (λ items. if is_place_of place (length items) then Some (slice_set items (unsigned_abs place) item) else None)

-- undefined without the pivot
abbrev pub insert_item_step : Side → Bytes → Bytes → Step
insert_item_step side pivot item = on lists (λ items. option_map (λ place. insert items place item) (place_beside side pivot items))

-- an item that isn't there: no change
abbrev pub remove_items_step : ℤ → Bytes → Step
remove_items_step count item = on lists (λ items. Some (without count item items))

-- undefined unless 0 <= first <= last < length
abbrev pub trim_step : ℤ → ℤ → Step
trim_step first last = on lists (λ items. if is_part_of first last (length items) then Some (slice_range items (unsigned_abs first) (unsigned_abs last + 1)) else None)

-- undefined without an item
abbrev pub turn_step : End → End → Step
turn_step taken put = on lists (turned taken put)

-- ---- sets

abbrev pub add_members_step : List Bytes → Step
add_members_step new = on sets (λ members. Some (with_members new members))

-- a member that isn't there: no change
abbrev pub remove_members_step : List Bytes → Step
remove_members_step names = on sets (λ members. Some (without_members names members))

-- ---- sorted sets

abbrev pub set_scores_step : List (Bytes × ℤ) → Step
set_scores_step pairs = on sorted_sets (λ scores. Some (with_scores pairs scores))

-- a member that isn't there: no change
abbrev pub remove_scores_step : List Bytes → Step
remove_scores_step names = on sorted_sets (λ scores. Some (without_scores names scores))
