-- Strings taken two by two.
use Rattle.std.specs.Prelude.{ℕ, List, [], ◌∷◌, ◌≡◌, ◌≢◌, ◌<◌, ◌≤◌, get_or, length}
use Rattle.std.specs.Borrow.{Bor}
use Rattle.std.specs.Cmp.Lexicographic.{slice_cmp}
use Rattle.std.specs.List.{flat_map}
use Rattle.std.specs.Ordering.{nat_cmp}
use Rattle.std.specs.declared.cmp.Ordering.TheVariants.{Less, Greater}

-- the strings of a pair, the first in front
abbrev pub both : List ℕ × List ℕ → List (List ℕ)
both pair = pair.0 ∷ (pair.1 ∷ [])

-- those of all pairs
abbrev pub spread : List (List ℕ × List ℕ) → List (List ℕ)
spread pairs = flat_map both pairs

-- the pairs that strings are; one left over is in none
abbrev pub pairs_in : List (List ℕ) → List (List ℕ × List ℕ)
pairs_in [] = []
pairs_in (one ∷ []) = []
pairs_in (first ∷ second ∷ strings) = (first, second) ∷ pairs_in strings

-- none is left over
abbrev pub ArePairs : List (List ℕ) → Type 0
ArePairs strings = strings ≡ spread (pairs_in strings)

-- the pair at a place
abbrev pub pair_at : List (List ℕ × List ℕ) → ℕ → List ℕ × List ℕ
pair_at pairs at = get_or pairs at ([], [])

-- what a pair of references points to
abbrev pub read_both : Bor (List ℕ) × Bor (List ℕ) → List ℕ × List ℕ
read_both pair = (pair.0.now, pair.1.now)

-- no pair in front of a place has this first
abbrev pub IsNone : List (List ℕ × List ℕ) → List ℕ → ℕ → Type 0
IsNone pairs first end = (i : ℕ) → i < end → (pair_at pairs i).0 ≢ first

-- the pair at a place is the first one with this first
pub record IsFirstAt (pairs : List (List ℕ × List ℕ)) (first : List ℕ) (at : ℕ) : Type 0 where
  pub within : at < length pairs
  pub first_is : (pair_at pairs at).0 ≡ first
  pub no_other : IsNone pairs first at

-- each pair in front of a place has a first that is less
abbrev pub AreLess : List (List ℕ × List ℕ) → List ℕ → ℕ → Type 0
AreLess pairs first end = (i : ℕ) → i < end → slice_cmp nat_cmp (pair_at pairs i).0 first ≡ Less

-- the pair at a place has this first, and those in front of it a lesser one
pub record IsAt (pairs : List (List ℕ × List ℕ)) (first : List ℕ) (at : ℕ) : Type 0 where
  pub within : at < length pairs
  pub first_is : (pair_at pairs at).0 ≡ first
  pub less : AreLess pairs first at

-- the pairs in front of a place have a lesser first, and the one there, if there is one, a greater
pub record IsBefore (pairs : List (List ℕ × List ℕ)) (first : List ℕ) (at : ℕ) : Type 0 where
  pub within : at ≤ length pairs
  pub less : AreLess pairs first at
  pub greater : at < length pairs → slice_cmp nat_cmp (pair_at pairs at).0 first ≡ Greater
