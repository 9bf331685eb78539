-- What bytes make of a dataset as a list of effect texts.
use Rattle.std.specs.Prelude.{◌≡◌, ℕ, List, ◌++◌, All, IsTrue, Some}
use Rattle.std.specs.FinMap.{empty}
use Rattle.mr_effect.specs.Effects.{words_fit, has_spelling}
use Rattle.mr_effect.specs.Spelling.{IsShort, text, texts}
use Rattle.mr_effect.specs.declared.effect.Effect.{Effect}
use Rattle.mr_keyspace.specs.Dataset.{Dataset}
use Rattle.mr_data.specs.Meaning.{apply, apply_all}

-- an effect whose text is a command text: it is spelled by its words, each fits, and they aren't too many
pub record IsGoodEffect (e : Effect) : Type 0 where
  pub spelled : IsTrue (has_spelling e)
  pub fits : IsTrue (words_fit e)
  pub short : IsShort e

-- the bytes are texts of effects, which lead from one dataset to another
pub record Leads (bytes : List ℕ) (old new : Dataset) : Type 0 where
  pub effects : List Effect
  pub good : All IsGoodEffect effects
  pub are_texts : bytes ≡ texts effects
  pub applied : apply_all effects old ≡ Some new

-- .. which make this dataset of the empty one
abbrev pub Makes : List ℕ → Dataset → Type 0
Makes bytes m = Leads bytes empty m

-- no text of an effect that can be applied begins the bytes
abbrev pub IsStuck : Dataset → List ℕ → Type 0
IsStuck m bytes = (e : Effect) (n : Dataset) (more : List ℕ) → IsGoodEffect e → apply e m ≡ Some n → bytes ≡ text e ++ more → ⊥

-- .. however the bytes go on
abbrev pub IsStuckForGood : Dataset → List ℕ → Type 0
IsStuckForGood m bytes = (more : List ℕ) → IsStuck m (bytes ++ more)
