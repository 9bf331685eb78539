-- Groups that are done as their texts come in pieces.
use Rattle.std.specs.Prelude.{◌≡◌, ◌⊎◌, ℕ, List, ◌++◌}
use Rattle.mr_keyspace.specs.Dataset.{Dataset}
use Rattle.mr_groups.specs.Reading.{BeginsWithGroup, IsOpen, IsBad}
use Rattle.mr_groups.specs.Notes.{HasNoNote, IsOpenNote}
use Rattle.mr_groups.specs.Folding.{IsRefused, IsTorn, MakesByGroups, IsStuckByGroups}
use Rattle.mr_groups.specs.declared.front.Rest.{Rest}
use Rattle.mr_groups.specs.declared.front.Rest.TheVariants as rest

-- no text of a note, nor of a group that can be applied, begins the bytes, however they go on
abbrev pub IsStuckByGroupsForGood : Dataset → List ℕ → Type 0
IsStuckByGroupsForGood m bytes = (more : List ℕ) → IsStuckByGroups m (bytes ++ more)

-- a group begins the bytes whose first effect is undefined at this dataset
pub record BeginsRefused (m : Dataset) (bytes : List ℕ) : Type 0 where
  pub front : BeginsWithGroup bytes
  pub refused : IsRefused front.group m

-- .. or a later one is, and those before it led to another dataset
pub record BeginsTorn (m : Dataset) (bytes : List ℕ) (new : Dataset) : Type 0 where
  pub front : BeginsWithGroup bytes
  pub torn : IsTorn front.group m new

-- the bytes are a beginning of a group's text, or of a note's
abbrev pub IsOpenItem : List ℕ → Type 0
IsOpenItem bytes = IsOpen bytes ⊎ IsOpenNote bytes

-- nothing is begun of the bytes, however they go on: no text of a group or of a note will come, or the group that begins them is refused
abbrev pub IsBadAt : Dataset → List ℕ → Type 0
IsBadAt m bytes = (IsBad bytes × HasNoNote bytes) ⊎ BeginsRefused m bytes

-- the bytes are what made this dataset by groups, and these behind it
pub record IsReadByGroups (bytes : List ℕ) (m : Dataset) (unread : List ℕ) : Type 0 where
  pub front : List ℕ
  pub is : bytes ≡ front ++ unread
  pub made : MakesByGroups front m

-- what is left behind the groups that were done: of a torn group the dataset is that after its first effects
abbrev pub IsRest : Dataset → List ℕ → Rest → Type 0
IsRest m bytes rest.Open = IsOpenItem bytes
IsRest m bytes rest.Bad = IsBadAt m bytes
IsRest m bytes rest.Torn = (made : Dataset) × BeginsTorn made bytes m

-- Up to these unread ones the bytes made the dataset. Where the group behind them is torn, they made the one at which it is.
abbrev pub IsReadUpTo : List ℕ → Dataset → List ℕ → Rest → Type 0
IsReadUpTo bytes m unread rest.Open = IsReadByGroups bytes m unread
IsReadUpTo bytes m unread rest.Bad = IsReadByGroups bytes m unread
IsReadUpTo bytes m unread rest.Torn = (made : Dataset) × IsReadByGroups bytes made unread × BeginsTorn made unread m
