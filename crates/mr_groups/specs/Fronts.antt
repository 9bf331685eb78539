-- Groups that are done at the front of bytes, and notes that are passed.
use Rattle.std.specs.Prelude.{◌≡◌, ℕ, ◌<◌, ◌≤◌, List, length, take, drop, Some, Result, Ok, Err}
use Rattle.std.specs.declared.alloc.AllocError.{AllocError}
use Rattle.mr_effect.specs.declared.effect.Effect.{Effect}
use Rattle.mr_keyspace.specs.Dataset.{Dataset}
use Rattle.mr_data.specs.Meaning.{apply_all}
use Rattle.mr_groups.specs.Folding.{IsRefused, IsTorn, LeadsByItems, MakesByGroups, IsStuckByGroups}
use Rattle.mr_groups.specs.Replaying.{BeginsTorn, IsBadAt, IsOpenItem}
use Rattle.mr_groups.specs.declared.front.Rest.{Rest}
use Rattle.mr_groups.specs.declared.front.Rest.TheVariants as rest
use Rattle.mr_groups.specs.declared.front.End.{End}
use Rattle.mr_groups.specs.declared.front.End.TheVariants as end

-- what was done with a group whose text has this length
abbrev pub TriesWhole : List Effect → ℕ → Dataset → Dataset → ℕ → End → Type 0
TriesWhole es n old new used end.Item = (used ≡ n) × (apply_all es old ≡ Some new)
TriesWhole es n old new used (end.Rest rest.Open) = ⊥
TriesWhole es n old new used (end.Rest rest.Bad) = (used ≡ 0) × (new ≡ old) × IsRefused es old
TriesWhole es n old new used (end.Rest rest.Torn) = (used ≡ 0) × IsTorn es old new
TriesWhole es n old new used end.Memory = used ≡ 0

-- what is left behind groups that led to a dataset, and the dataset then
abbrev pub IsHalt : Dataset → List ℕ → Rest → Dataset → Type 0
IsHalt m bytes rest.Open n = (n ≡ m) × IsOpenItem bytes
IsHalt m bytes rest.Bad n = (n ≡ m) × IsBadAt m bytes
IsHalt m bytes rest.Torn n = BeginsTorn m bytes n

-- why a turn ended behind groups that led to a dataset, and the dataset then
abbrev pub IsEnd : Dataset → List ℕ → End → Dataset → Type 0
IsEnd m bytes end.Item n = n ≡ m
IsEnd m bytes (end.Rest r) n = IsHalt m bytes r n
IsEnd m bytes end.Memory n = Unit {0}

-- The first bytes led from one dataset to another, and why the turn ended: with a group or a note, which takes some bytes, or what is left.
pub record TakesTurn (bytes : List ℕ) (used : ℕ) (old new : Dataset) (e : End) : Type 0 where
  pub within : used ≤ length bytes
  pub mid : Dataset
  pub led : LeadsByItems (take used bytes) old mid
  pub left : IsEnd mid (drop used bytes) e new
  pub some : e ≡ end.Item → 0 < used

-- why no more was done behind groups that led to a dataset, and the dataset then
abbrev pub IsLeft : Dataset → List ℕ → Result Rest AllocError → Dataset → Type 0
IsLeft m bytes (Ok r) n = IsHalt m bytes r n
IsLeft m bytes (Err e) n = Unit {0}

-- the first bytes led from one dataset to another, and why no more was done
pub record AppliesFront (bytes : List ℕ) (used : ℕ) (old new : Dataset) (r : Result Rest AllocError) : Type 0 where
  pub within : used ≤ length bytes
  pub mid : Dataset
  pub led : LeadsByItems (take used bytes) old mid
  pub left : IsLeft mid (drop used bytes) r new

-- the first bytes make a dataset by groups, and no group goes on from it
pub record EndsAt (bytes : List ℕ) (used : ℕ) : Type 0 where
  pub within : used ≤ length bytes
  pub made : Dataset
  pub led : MakesByGroups (take used bytes) made
  pub stuck : IsStuckByGroups made (drop used bytes)
