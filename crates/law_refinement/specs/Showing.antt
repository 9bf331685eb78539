-- What a node of a World shows, and what the history of an id gives.
use Rattle.std.specs.Prelude.{◌≡◌, ◌≤◌, ℕ, List, ◌++◌, Some, true, length, take, slice_get}
use Rattle.mr_keyspace.specs.Dataset.{Dataset}
use Rattle.mr_groups.specs.Folding.{LeadsByGroups, MakesByGroups}
use Rattle.law_refinement.specs.State.{Slot, BookEntry, WorldState}
use Rattle.law_refinement.specs.Books.{entry_of}

-- Node n isn't stopped, has this id and this offset, and holds m.
pub record Shows (w : WorldState) (n : ℕ) (id : List ℕ) (offset : ℕ) (m : Dataset) : Type 0 where
  pub slot : Slot
  pub found : slice_get w.slots n ≡ Some slot
  pub up : slot.node.core.up ≡ true
  pub id_is : slot.node.core.lineage.id ≡ id
  pub offset_is : slot.node.core.lineage.stream.offset ≡ offset
  pub held_is : slot.node.core.held ≡ m

-- The history of an id is the commands that make the dataset with which it began, and the texts of its groups of effects since. Up
-- to an offset it gives what so many bytes of these texts make of that dataset, group by group: they end where a group does.
pub record Gives (w : WorldState) (id : List ℕ) (offset : ℕ) (m : Dataset) : Type 0 where
  pub entry : BookEntry
  pub found : entry_of w.book id ≡ Some entry
  pub within : offset ≤ length entry.texts
  pub begun : Dataset
  pub start : MakesByGroups entry.start begun
  pub led : LeadsByGroups (take offset entry.texts) begun m

-- It began with the same dataset, and there may be more texts behind those of before.
pub record GoesOn (old new : BookEntry) : Type 0 where
  pub dataset : Dataset
  pub before : MakesByGroups old.start dataset
  pub after : MakesByGroups new.start dataset
  pub more : List ℕ
  pub texts : new.texts ≡ old.texts ++ more

-- Each id that has a history keeps it.
abbrev pub HistoriesGoOn : WorldState → WorldState → Type 0
HistoriesGoOn w v = (id : List ℕ) (old : BookEntry) → entry_of w.book id ≡ Some old → (new : BookEntry) × (entry_of v.book id ≡ Some new) × GoesOn old new
