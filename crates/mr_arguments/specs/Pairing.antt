-- Words taken two by two.
use Rattle.std.specs.Prelude.{ℕ, List, [], ◌∷◌, Bool, true, false, if◌then◌else◌, Option, Some, None}
use Rattle.std.specs.Borrow.{Bor}

abbrev pub paired : List (List ℕ) → List (List ℕ × List ℕ)
paired [] = []
paired (word ∷ []) = []
paired (field ∷ value ∷ words) = (field, value) ∷ paired words

abbrev pub unpaired : List (List ℕ × List ℕ) → List (List ℕ)
unpaired [] = []
unpaired (pair ∷ pairs) = pair.0 ∷ pair.1 ∷ unpaired pairs

-- words that are pairs, with no word left over
abbrev pub are_pairs : List (List ℕ) → Bool
are_pairs [] = true
are_pairs (word ∷ []) = false
are_pairs (field ∷ value ∷ words) = are_pairs words

-- the pairs that the words are, if no word is left over
abbrev pub pairs_of : List (List ℕ) → Option (List (List ℕ × List ℕ))
pairs_of words = if are_pairs words then Some (paired words) else None

-- what a pair of references points to
abbrev pub read_pair : Bor (List ℕ) × Bor (List ℕ) → List ℕ × List ℕ
read_pair pair = (pair.0.now, pair.1.now)
