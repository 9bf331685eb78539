-- The group at the front of bytes.
use Rattle.std.specs.Prelude.{◌≡◌, ℕ, ◌≤◌, ◌⊎◌, List, ◌++◌, length, take, All}
use Rattle.std.specs.List.{concat}
use Rattle.mr_inline.specs.Language.{Continues, IsDoomed}
use Rattle.mr_resp.specs.Command.{IsCommandText}
use Rattle.mr_resp.specs.Usual.{commands}
use Rattle.mr_effect.specs.declared.effect.Effect.{Effect}
use Rattle.mr_groups.specs.Groups.{IsGoodGroup, group_text, parts}
use Rattle.mr_groups.specs.declared.reading.Next.{Next}
use Rattle.mr_groups.specs.declared.reading.Next.TheVariants.{Whole, More, Bad}

-- the first bytes are the text of this group
pub record IsFirstGroup (bytes : List ℕ) (es : List Effect) (used : ℕ) : Type 0 where
  pub within : used ≤ length bytes
  pub good : IsGoodGroup es
  pub is_text : take used bytes ≡ group_text es

-- the text of a group begins the bytes
pub record BeginsWithGroup (bytes : List ℕ) : Type 0 where
  pub group : List Effect
  pub good : IsGoodGroup group
  pub behind : List ℕ
  pub is : bytes ≡ group_text group ++ behind

-- command texts stand at the front of the bytes, and these behind them
pub record IsCut (bytes : List ℕ) (ts : List (List ℕ)) (rest : List ℕ) : Type 0 where
  pub is : bytes ≡ concat ts ++ rest
  pub each : All (IsCommandText commands) ts

-- the texts are a beginning of those that a group's text is made of
pub record BeginGroup (ts : List (List ℕ)) : Type 0 where
  pub group : List Effect
  pub good : IsGoodGroup group
  pub more : List (List ℕ)
  pub is : parts group ≡ ts ++ more

-- no group's text is there, but a beginning of one: of whole command texts, and behind them of a further one
pub record IsOpen (bytes : List ℕ) : Type 0 where
  pub none : BeginsWithGroup bytes → ⊥
  pub front : List (List ℕ)
  pub rest : List ℕ
  pub cut : IsCut bytes front rest
  pub begin : BeginGroup front
  pub open_end : Continues (IsCommandText commands) rest

-- no group's text is there, and command texts at the front begin none, or no command text can come of what is behind them
pub record IsBad (bytes : List ℕ) : Type 0 where
  pub none : BeginsWithGroup bytes → ⊥
  pub front : List (List ℕ)
  pub rest : List ℕ
  pub cut : IsCut bytes front rest
  pub bad : (BeginGroup front → ⊥) ⊎ IsDoomed (IsCommandText commands) rest

abbrev pub ReadsGroup : List ℕ → Next → Type 0
ReadsGroup bytes (Whole effects used) = IsFirstGroup bytes effects.items used
ReadsGroup bytes More = IsOpen bytes
ReadsGroup bytes Bad = IsBad bytes
