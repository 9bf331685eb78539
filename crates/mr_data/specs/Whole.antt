-- Effects that take all members of a sorted set out.
use Rattle.std.specs.Prelude.{◌≡◌, ℤ, List, [], ◌∷◌, ◌++◌, ◌&&◌, IsTrue, map}
use Rattle.mr_map.specs.Bytes.{Bytes}
use Rattle.mr_effect.specs.Effects.{words_fit, has_spelling}
use Rattle.mr_effect.specs.declared.effect.Effect.{Effect}
use Rattle.mr_effect.specs.declared.effect.Effect.TheVariants as effect

-- the members of pairs
abbrev pub names : List (Bytes × ℤ) → List Bytes
names ps = map (λ (p : Bytes × ℤ). p.0) ps

-- the effect may be done, and takes the first of these members out of the sorted set at a key; those behind them are left
pub record TakesFirst (k : Bytes) (e : Effect) (before after : List Bytes) : Type 0 where
  pub members : List Bytes
  pub is : e ≡ effect.RemoveScores k members
  pub possible : IsTrue (has_spelling e && words_fit e)
  pub first : before ≡ members ++ after

-- .. or takes members out that come behind others
pub record TakesMore (k : Bytes) (e : Effect) (before after : List Bytes) : Type 0 where
  pub members : List Bytes
  pub is : e ≡ effect.RemoveScores k members
  pub possible : IsTrue (has_spelling e && words_fit e)
  pub behind : after ≡ before ++ members

-- effects, one after another, take these members out, all of them, and do nothing else
abbrev pub TakeAll : Bytes → List Effect → List Bytes → Type 0
TakeAll k [] ms = ms ≡ []
TakeAll k (e ∷ es) ms = (rest : List Bytes) × TakesFirst k e ms rest × TakeAll k es rest
