-- How the bounds of ranges are spelled.
use Rattle.std.specs.Prelude.{◌≡◌, ◌⊎◌, ℕ, ◌==◌, ◌||◌, List, [], ◌∷◌, map, drop, slice_index, codes, Bool, false, if◌then◌else◌, Option, Some, option_map}
use Rattle.std.specs.Str.{bytes_eq, str_to_ascii_lowercase}
use Rattle.mr_score.specs.Texts.{score_of}
use Rattle.mr_zset.specs.declared.bound.Bound.{Bound}
use Rattle.mr_zset.specs.declared.bound.Bound.TheVariants.{NegativeInfinity, Included, Excluded, PositiveInfinity}

-- a bound without what lies on it
abbrev pub excluding : Bound → Bound
excluding NegativeInfinity = NegativeInfinity
excluding (Included n) = Excluded n
excluding (Excluded n) = Excluded n
excluding PositiveInfinity = PositiveInfinity

-- the names of the infinities, in lower case
abbrev pub positive_names : List (List ℕ)
positive_names = codes "inf" ∷ codes "+inf" ∷ codes "infinity" ∷ codes "+infinity" ∷ []

abbrev pub negative_names : List (List ℕ)
negative_names = codes "-inf" ∷ codes "-infinity" ∷ []

-- the word is one of these names
abbrev pub is_one_of : List (List ℕ) → List ℕ → Bool
is_one_of [] word = false
is_one_of (name ∷ names) word = bytes_eq word name || is_one_of names word

abbrev pub IsOneOf : List (List ℕ) → List ℕ → Type 0
IsOneOf [] word = ⊥
IsOneOf (name ∷ names) word = (word ≡ name) ⊎ IsOneOf names word

-- names behind a `(`
abbrev pub in_parenthesis : List (List ℕ) → List (List ℕ)
in_parenthesis names = map (λ name. 40 ∷ name) names

-- in any case the text is one of these names, or a `(` and one of them
abbrev pub IsNamed : List (List ℕ) → List ℕ → Type 0
IsNamed names text = IsOneOf names (str_to_ascii_lowercase text) ⊎ IsOneOf (in_parenthesis names) (str_to_ascii_lowercase text)

-- the bound that a text without a parenthesis spells: the names of the infinities are read in any case
unfoldable pub limit_of : List ℕ → Option Bound
limit_of text =
    if is_one_of positive_names (str_to_ascii_lowercase text) then Some PositiveInfinity
    else (if is_one_of negative_names (str_to_ascii_lowercase text) then Some NegativeInfinity
    else option_map Included (score_of text))

-- the bound that a text spells: behind a `(` the range doesn't have what lies on it
unfoldable pub bound_of : List ℕ → Option Bound
bound_of text = if slice_index text 0 == 40 then option_map excluding (limit_of (drop 1 text)) else limit_of text
