-- What was taken of an input.
use Rattle.std.specs.Prelude.{◌≡◌, ◌≢◌, ℕ, List, [], ◌∷◌, ◌++◌, Option, IfSome, All}
use Rattle.std.specs.Io.KnownBytes.{Consumes, IsAtEnd}
use Rattle.mr_trio_script.specs.declared.taking.NextLine.{NextLine}
use Rattle.mr_trio_script.specs.declared.taking.NextLine.TheVariants.{Line, End}

-- no line feed is among the bytes
abbrev pub HasNoFeed : List ℕ → Type 0
HasNoFeed bytes = All (λ b. b ≢ 10) bytes

-- a line feed ends the bytes, and there is no other
pub record IsFed (line : List ℕ) : Type 0 where
  pub text : List ℕ
  pub is : line ≡ text ++ 10 ∷ []
  pub none : HasNoFeed text

-- the last bytes of an input, which no line feed ends
pub record IsRest (bytes : List ℕ) (before after : Option (List ℕ)) : Type 0 where
  pub none : HasNoFeed bytes
  pub at_end : IfSome before (λ _. IsAtEnd after)

abbrev pub IsNext : NextLine → List ℕ → Option (List ℕ) → Option (List ℕ) → Type 0
IsNext Line bytes before after = IsFed bytes
IsNext End bytes before after = IsRest bytes before after

-- The bytes were taken from the front of an input: the next line, or the rest.
pub record Took (next : NextLine) (bytes : List ℕ) (before after : Option (List ℕ)) : Type 0 where
  pub consumed : Consumes before after bytes
  pub is_next : IsNext next bytes before after

-- The bytes were taken from the front of an input, and no line ends among them, but maybe with them.
pub record TookSome (bytes : List ℕ) (before after : Option (List ℕ)) : Type 0 where
  pub consumed : Consumes before after bytes

-- whether a line feed is the last of the bytes
abbrev pub EndsAs : NextLine → List ℕ → Type 0
EndsAs Line bytes = (text : List ℕ) × (bytes ≡ text ++ 10 ∷ [])
EndsAs End bytes = (text : List ℕ) → bytes ≢ text ++ 10 ∷ []
