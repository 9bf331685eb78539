-- How the arguments of a command are spelled.
use Rattle.std.specs.Prelude.{◌≡◌, ◌<◌, ◌^◌, ℕ, ℤ, pos, List, [], ◌∷◌, ◌++◌, IsPermutation, Option, Some, None}
use Rattle.std.specs.Fmt.{signed_decimal}
use Rattle.mr_zset.specs.declared.bound.Bound.{Bound}
use Rattle.mr_score.specs.Texts.{IsScoreText}
use Rattle.mr_zset.specs.Texts.{bound_of}
use Rattle.mr_arguments.specs.Names.{lowered}
use Rattle.mr_arguments.specs.declared.name.Name.{Name}

-- an argument: this word as it is, the text of this number, this option word in any case, the text of some number from 1 on, or a text of this score or of this bound on scores
pub data Part : Type 0 where
  Word : List ℕ → Part
  Number : ℤ → Part
  Keyword : List ℕ → Part
  Positive : Part
  Score : ℤ → Part
  ScoreBound : Bound → Part

-- a count that may be left out
abbrev pub count_part : Option ℕ → List Part
count_part None = []
count_part (Some n) = Number (pos n) ∷ []

-- the text of a number of 64 bits from 1 on
abbrev pub IsPositive : List ℕ → Type 0
IsPositive word = (n : ℕ) × ((0 < n) × (n < 2 ^ 63) × (word ≡ signed_decimal (pos n)))

-- the word is that argument
abbrev pub IsPart : List ℕ → Part → Type 0
IsPart word (Word text) = word ≡ text
IsPart word (Number n) = word ≡ signed_decimal n
IsPart word (Keyword text) = lowered word ≡ text
IsPart word Positive = IsPositive word
IsPart word (Score n) = IsScoreText word n
IsPart word (ScoreBound bound) = bound_of word ≡ Some bound

-- each word is the argument in its place, and there are no others
abbrev pub AreParts : List (List ℕ) → List Part → Type 0
AreParts [] [] = Unit {0}
AreParts (word ∷ words) (part ∷ parts) = IsPart word part × AreParts words parts
AreParts _ _ = ⊥

-- options in a row
abbrev pub in_a_row : List (List Part) → List Part
in_a_row [] = []
in_a_row (option ∷ options) = option ++ in_a_row options

-- the words are these arguments, and behind them these options, in some order
abbrev pub AreWithOptions : List (List ℕ) → List Part → List (List Part) → Type 0
AreWithOptions words parts options = (order : List (List Part)) × (IsPermutation options order × AreParts words (parts ++ in_a_row order))

-- the words are these arguments, then these options, in some order, and then further arguments
abbrev pub AreAroundOptions : List (List ℕ) → List Part → List (List Part) → List Part → Type 0
AreAroundOptions words front options back = (order : List (List Part)) × (IsPermutation options order × AreParts words (front ++ in_a_row order ++ back))

-- the command's name is this one, and these are its arguments
pub record NameAndArguments (its called : Name) (Arguments : Type 0) : Type 0 where
  pub name_is : its ≡ called
  pub parts : Arguments
