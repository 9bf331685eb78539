-- What was read of a group whose text comes in pieces.
use Rattle.std.specs.Prelude.{◌≡◌, ℕ, ◌≤◌, List, [], ◌++◌, length, take, drop, All, IsTrue}
use Rattle.std.specs.List.{list_all}
use Rattle.mr_resp.specs.Resumed.{AgreesCommand, KnowsNothing}
use Rattle.mr_effect.specs.Spelling.{texts}
use Rattle.mr_effect.specs.declared.effect.Effect.{Effect}
use Rattle.mr_groups.specs.Effects.{IsGoodEffect}
use Rattle.mr_groups.specs.Groups.{can_join, multi}
use Rattle.mr_groups.specs.declared.reader.Reader.{Reader}
use Rattle.mr_groups.specs.declared.reading.Next.{Next}
use Rattle.mr_groups.specs.declared.reading.Next.TheVariants.{Whole, More, Bad}

-- the first bytes are a frame's beginning and effects that can stand beside one another
pub record AreRead (bytes : List ℕ) (used : ℕ) (es : List Effect) : Type 0 where
  pub within : used ≤ length bytes
  pub is_text : take used bytes ≡ multi ++ texts es
  pub good : All IsGoodEffect es
  pub join : IsTrue (list_all can_join es)

-- no whole command text was read
abbrev pub IsAtStart : Reader → Type 0
IsAtStart r = (r.used ≡ 0) × (r.effects ≡ [])

-- nothing was read
abbrev pub IsFresh : Reader → Type 0
IsFresh r = IsAtStart r × KnowsNothing r.known

-- Of these bytes nothing was read; or what is known of the command text at their front; or a frame's beginning and effects behind
-- it, and what is known of the command text there.
pub data HasRead (r : Reader) (bytes : List ℕ) : Type 0 where
  nothing : IsFresh r → HasRead r bytes
  partly : IsAtStart r → AgreesCommand r.known bytes → HasRead r bytes
  begun : AreRead bytes r.used r.effects → AgreesCommand r.known (drop r.used bytes) → HasRead r bytes

-- a whole group is given away
abbrev pub LeavesOf : Next → Reader → Type 0
LeavesOf (Whole effects used) r = IsFresh r
LeavesOf More r = Unit {0}
LeavesOf Bad r = IsFresh r

-- these effects are given away, whose group's text has so many bytes
abbrev pub GivesAll : List Effect → ℕ → Next → Type 0
GivesAll es n (Whole effects used) = (effects.items ≡ es) × (used ≡ n)
GivesAll es n More = ⊥
GivesAll es n Bad = ⊥

-- the bytes begin those that a part was read of
abbrev pub MayRead : Reader → List ℕ → Type 0
MayRead r bytes = (more : List ℕ) × HasRead r (bytes ++ more)

-- what was read of some bytes was read of more
abbrev pub ReadsOn : Type 0
ReadsOn = (r : Reader) (bytes more : List ℕ) → HasRead r bytes → HasRead r (bytes ++ more)

-- and of a fresh reader's bytes any can come
abbrev pub ReadsAny : Type 0
ReadsAny = (r : Reader) (bytes : List ℕ) → IsFresh r → HasRead r bytes
