-- The command text at the front of bytes, as a part of a group's text.
use Rattle.std.specs.Prelude.{◌≡◌, ℕ, ◌≤◌, ◌⊎◌, List, [], ◌∷◌, ◌++◌, length, take, codes, Bool, false}
use Rattle.std.specs.Str.{bytes_eq}
use Rattle.mr_map.specs.Bytes.{Bytes}
use Rattle.mr_inline.specs.Language.{Continues, IsDoomed}
use Rattle.mr_resp.specs.Command.{IsCommandText}
use Rattle.mr_resp.specs.Resumed.{KnowsNothing}
use Rattle.mr_resp.specs.Usual.{commands}
use Rattle.mr_resp.specs.declared.progress.CommandProgress.{CommandProgress}
use Rattle.mr_effect.specs.Spelling.{text, IsSpelled}
use Rattle.mr_effect.specs.declared.effect.Effect.{Effect}
use Rattle.mr_groups.specs.Effects.{IsGoodEffect}
use Rattle.mr_groups.specs.Groups.{can_join, multi, exec}
use Rattle.mr_groups.specs.declared.part.Part.{Part}
use Rattle.mr_groups.specs.declared.part.Part.TheVariants as part

-- the one word of a frame's text
abbrev pub multi_words : List Bytes
multi_words = codes "MULTI" ∷ []

abbrev pub exec_words : List Bytes
exec_words = codes "EXEC" ∷ []

-- the first bytes are this text
pub record StartsWith (t bytes : List ℕ) (used : ℕ) : Type 0 where
  pub within : used ≤ length bytes
  pub is_text : take used bytes ≡ t

-- the first bytes are the text of an effect, which was put behind the others
pub record TakesEffect (bytes : List ℕ) (used : ℕ) (joins : Bool) (old new : List Effect) : Type 0 where
  pub effect : Effect
  pub good : IsGoodEffect effect
  pub starts : StartsWith (text effect) bytes used
  pub is_joining : joins ≡ can_join effect
  pub put : new ≡ old ++ effect ∷ []

-- a command text begins the bytes that is no part of any group's text
pub record HasOther (bytes : List ℕ) : Type 0 where
  pub command : List ℕ
  pub behind : List ℕ
  pub is : bytes ≡ command ++ behind
  pub whole : IsCommandText commands command
  pub no_multi : command ≡ multi → ⊥
  pub no_exec : command ≡ exec → ⊥
  pub no_effect : (e : Effect) → IsGoodEffect e → command ≡ text e → ⊥

abbrev pub ReadsPart : List ℕ → List Effect → Part → List Effect → Type 0
ReadsPart bytes old (part.Begin used) new = StartsWith multi bytes used × (new ≡ old)
ReadsPart bytes old (part.End used) new = StartsWith exec bytes used × (new ≡ old)
ReadsPart bytes old (part.Effect used joins) new = TakesEffect bytes used joins old new
ReadsPart bytes old part.More new = Continues (IsCommandText commands) bytes × (new ≡ old)
ReadsPart bytes old part.Bad new = HasOther bytes ⊎ IsDoomed (IsCommandText commands) bytes

-- there is one word, and it is this one
abbrev pub is_only : List Bytes → Bytes → Bool
is_only (w ∷ []) name = bytes_eq w name
is_only ws name = false

-- the effect with these words was put behind the others
pub record TakesWords (ws : List Bytes) (joins : Bool) (old new : List Effect) : Type 0 where
  pub effect : Effect
  pub spelled : IsSpelled ws effect
  pub is_joining : joins ≡ can_join effect
  pub put : new ≡ old ++ effect ∷ []

-- .. or there is none
abbrev pub ReadsEffect : List Bytes → ℕ → List Effect → Part → List Effect → Type 0
ReadsEffect ws n old (part.Begin used) new = ⊥
ReadsEffect ws n old (part.End used) new = ⊥
ReadsEffect ws n old (part.Effect used joins) new = (used ≡ n) × TakesWords ws joins old new
ReadsEffect ws n old part.More new = ⊥
ReadsEffect ws n old part.Bad new = (e : Effect) → IsSpelled ws e → ⊥

-- the words are none of a frame's, and no effect's
pub record AreOther (ws : List Bytes) : Type 0 where
  pub no_multi : ws ≡ multi_words → ⊥
  pub no_exec : ws ≡ exec_words → ⊥
  pub no_effect : (e : Effect) → IsSpelled ws e → ⊥

-- what a command text of these words and this length is
abbrev pub ReadsWords : List Bytes → ℕ → List Effect → Part → List Effect → Type 0
ReadsWords ws n old (part.Begin used) new = (used ≡ n) × (ws ≡ multi_words) × (new ≡ old)
ReadsWords ws n old (part.End used) new = (used ≡ n) × (ws ≡ exec_words) × (new ≡ old)
ReadsWords ws n old (part.Effect used joins) new = (used ≡ n) × TakesWords ws joins old new
ReadsWords ws n old part.More new = ⊥
ReadsWords ws n old part.Bad new = AreOther ws

-- Nothing is known of the command text that comes next, where one was read or none can come.
abbrev pub IsKnownAfter : CommandProgress → Part → Type 0
IsKnownAfter progress (part.Begin used) = KnowsNothing progress
IsKnownAfter progress (part.End used) = KnowsNothing progress
IsKnownAfter progress (part.Effect used joins) = KnowsNothing progress
IsKnownAfter progress part.More = Unit {0}
IsKnownAfter progress part.Bad = KnowsNothing progress
