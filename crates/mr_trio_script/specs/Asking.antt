-- What a line asks.
use Rattle.std.specs.Prelude.{◌≡◌, ◌<◌, ℕ, List, [], ◌∷◌, length, map}
use Rattle.std.specs.Cow.{cow_slice_items}
use Rattle.mr_inline.specs.Line.{IsLine, IsBlank}
use Rattle.mr_inline.specs.Limits.{line_limit}
use Rattle.mr_trio_script.specs.Places.{digit_of}
use Rattle.mr_trio_script.specs.declared.asking.Asked.{Asked}
use Rattle.mr_trio_script.specs.declared.asking.Asked.TheVariants.{Nothing, Request, Bad}
use Rattle.mr_trio_script.specs.declared.place.Place.{Place}

-- The line is the digit of a node's number, and words behind it.
pub record Asks (line : List ℕ) (place : Place) (words : List (List ℕ)) : Type 0 where
  pub some : 0 < length words
  pub line_is : IsLine line_limit line ((digit_of place ∷ []) ∷ words)

-- The line has words, and asks no node anything; or it is no line.
pub record AsksNobody (line : List ℕ) : Type 0 where
  pub not_blank : ¬ (IsBlank line_limit line)
  pub nobody : (place : Place) (words : List (List ℕ)) → ¬ (Asks line place words)

abbrev pub IsAsked : List ℕ → Asked → Type 0
IsAsked line Nothing = IsBlank line_limit line
IsAsked line (Request place words) = Asks line place (map cow_slice_items words.items)
IsAsked line Bad = AsksNobody line

-- the first of the words is the digit of a node's number, and others follow
pub record IsPlaced (words : List (List ℕ)) (place : Place) : Type 0 where
  pub behind : List (List ℕ)
  pub some : 0 < length behind
  pub is : words ≡ (digit_of place ∷ []) ∷ behind

-- the words behind a node's digit
abbrev pub IsBehind : List (List ℕ) → Asked → Type 0
IsBehind words Nothing = ⊥
IsBehind words (Request place behind) = (0 < length behind.items) × (words ≡ (digit_of place ∷ []) ∷ map cow_slice_items behind.items)
IsBehind words Bad = (place : Place) → ¬ (IsPlaced words place)
