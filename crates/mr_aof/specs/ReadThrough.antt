-- How far a file is read as it is opened.
use Rattle.std.specs.Prelude.{◌≡◌, ◌⊎◌, ℕ, ◌<◌, ◌≤◌, ◌^◌, List, length, take, Bool, false, Option, None, Some}
use Rattle.mr_keyspace.specs.Dataset.{Dataset}
use Rattle.mr_groups.specs.Folding.{LoadsGroups, IsStuckByGroups}
use Rattle.mr_groups.specs.Replaying.{IsReadUpTo, IsStuckByGroupsForGood}
use Rattle.mr_groups.specs.Fronts.{EndsAt}
use Rattle.mr_groups.specs.declared.front.Rest.{Rest}
use Rattle.mr_groups.specs.declared.front.Rest.TheVariants as rest
use Rattle.mr_aof.specs.declared.log.opening.Pass.{Pass}
use Rattle.mr_aof.specs.declared.log.opening.Pass.TheVariants as pass

-- no more than what stands before a place is to be read, if one is given
abbrev pub IsWithin : ℕ → Option ℕ → Type 0
IsWithin at None = at < 2 ^ 64
IsWithin at (Some end) = at ≤ end

-- .. and less
abbrev pub IsBefore : ℕ → Option ℕ → Type 0
IsBefore at None = at < 2 ^ 64
IsBefore at (Some end) = at < end

-- .. and that is the longest beginning that can be done
abbrev pub IsKnownEnd : List ℕ → Option ℕ → Type 0
IsKnownEnd file None = Unit {0}
IsKnownEnd file (Some end) = EndsAt file end

-- why a file isn't read further: it ends there, or it was to be read so far; or no group can follow
abbrev pub IsStop : List ℕ → Option ℕ → ℕ → Dataset → List ℕ → Rest → Type 0
IsStop file end at m unread rest.Open = IsStuckByGroups m unread × ((at ≡ length file) ⊎ (end ≡ Some at))
IsStop file end at m unread rest.Bad = IsStuckByGroupsForGood m unread
IsStop file end at m unread rest.Torn = Unit {0}

-- the first bytes of a file were read, and why no more
pub record IsReadThrough (file : List ℕ) (end : Option ℕ) (at : ℕ) (m : Dataset) (unread : List ℕ) (r : Rest) : Type 0 where
  pub within : at ≤ length file
  pub read : IsReadUpTo (take at file) m unread r
  pub stop : IsStop file end at m unread r

-- what was loaded of a file, and whether more may stand in it
abbrev pub IsMade : List ℕ → ℕ → Dataset → Bool → Type 0
IsMade file used m has_more = LoadsGroups file used m × (has_more ≡ false → used ≡ length file)

-- what one reading of a file came to
abbrev pub CameTo : List ℕ → Pass → Type 0
CameTo file (pass.Made made) = IsMade file made.loaded.used made.loaded.dataset made.has_more
CameTo file (pass.Torn used) = EndsAt file used

-- the next one goes less far
abbrev pub IsEarlier : Pass → Option ℕ → Type 0
IsEarlier (pass.Made made) end = Unit {0}
IsEarlier (pass.Torn used) end = IsBefore used end
