-- What groups make of a dataset, each as a whole, and how much of a file is read.
use Rattle.std.specs.Prelude.{◌≡◌, ℕ, ◌<◌, ◌≤◌, List, [], ◌∷◌, ◌++◌, length, take, All, Bool, true, false, Option, Some, None, Result, Ok, Err}
use Rattle.std.specs.List.{AllByRecursion}
use Rattle.std.specs.Option.{option_and_then}
use Rattle.std.specs.FinMap.{empty}
use Rattle.mr_effect.specs.declared.effect.Effect.{Effect}
use Rattle.mr_keyspace.specs.Dataset.{Dataset}
use Rattle.mr_keyspace.specs.Changes.{NeedsNoMemory}
use Rattle.mr_keyspace.specs.declared.fault.ApplyFault.{ApplyFault}
use Rattle.mr_keyspace.specs.declared.fault.ApplyFault.TheVariants as undone
use Rattle.mr_data.specs.Meaning.{apply, apply_all, StopsAtOne}
use Rattle.mr_groups.specs.Groups.{IsGoodGroup, group_text, group_texts}
use Rattle.mr_groups.specs.Notes.{BeginsWithNote}
use Rattle.mr_groups.specs.Items.{Item, IsGoodItem, item_texts, groups_of}
use Rattle.mr_groups.specs.declared.applying.GroupFault.{GroupFault}
use Rattle.mr_groups.specs.declared.applying.GroupFault.TheVariants as fault

-- the dataset after groups one after another: a group is undefined where one of its effects is
abbrev pub apply_groups : List (List Effect) → Dataset → Option Dataset
apply_groups [] m = Some m
apply_groups (g ∷ gs) m = option_and_then (apply_groups gs) (apply_all g m)

-- the first effect is undefined
abbrev pub IsRefused : List Effect → Dataset → Type 0
IsRefused [] m = ⊥
IsRefused (e ∷ es) m = apply e m ≡ None

-- a later effect is undefined, and the dataset is that after those before it
pub record IsTorn (es : List Effect) (m new : Dataset) : Type 0 where
  pub stops : StopsAtOne es m new
  pub begun : 0 < length stops.before

-- why a group isn't done, if an effect isn't, the first or a later one
abbrev pub fault_of : ApplyFault → Bool → GroupFault
fault_of undone.Memory is_first = fault.Memory
fault_of undone.Refused true = fault.Refused
fault_of undone.Refused false = fault.Torn

-- A group is done as a whole. It is refused exactly where its first effect is undefined, and nothing has changed then; where
-- memory ran out, one of its effects takes memory, and the dataset is empty.
abbrev pub AppliesGroup : List Effect → Dataset → Result (Unit {0}) GroupFault → Dataset → Type 0
AppliesGroup es m (Ok done) n = apply_all es m ≡ Some n
AppliesGroup es m (Err fault.Refused) n = IsRefused es m × (n ≡ m)
AppliesGroup es m (Err fault.Memory) n = (IsRefused es m → ⊥) × (AllByRecursion NeedsNoMemory es → ⊥) × (n ≡ empty)
AppliesGroup es m (Err fault.Torn) n = IsTorn es m n

-- the bytes are texts of groups, which lead from one dataset to another
pub record LeadsByGroups (bytes : List ℕ) (old new : Dataset) : Type 0 where
  pub groups : List (List Effect)
  pub good : All IsGoodGroup groups
  pub are_texts : bytes ≡ group_texts groups
  pub applied : apply_groups groups old ≡ Some new

-- .. or, as in a file, these and notes, in any order: a note does nothing
pub record LeadsByItems (bytes : List ℕ) (old new : Dataset) : Type 0 where
  pub items : List Item
  pub good : All IsGoodItem items
  pub are_texts : bytes ≡ item_texts items
  pub applied : apply_groups (groups_of items) old ≡ Some new

-- a file's bytes make this dataset of the empty one, group by group
abbrev pub MakesByGroups : List ℕ → Dataset → Type 0
MakesByGroups bytes m = LeadsByItems bytes empty m

-- The longest beginning of a file that makes a dataset by groups has this length, and makes this one.
pub record LoadsGroups (file : List ℕ) (used : ℕ) (m : Dataset) : Type 0 where
  pub within : used ≤ length file
  pub made : MakesByGroups (take used file) m
  pub longest : (other more : List ℕ) (n : Dataset) → file ≡ other ++ more → MakesByGroups other n → length other ≤ used

-- no text of a note, nor of a group that can be applied, begins the bytes
pub record IsStuckByGroups (m : Dataset) (bytes : List ℕ) : Type 0 where
  pub no_note : BeginsWithNote bytes → ⊥
  pub no_group : (es : List Effect) (n : Dataset) (more : List ℕ) → IsGoodGroup es → apply_all es m ≡ Some n → bytes ≡ group_text es ++ more → ⊥
