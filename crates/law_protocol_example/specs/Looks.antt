-- A list as a map from places.
use Rattle.std.specs.Prelude.{ℕ, zero, suc, List, [], ◌∷◌, Option, None, Some}

-- the item at a place, the first at 0
abbrev pub look : {A : Type 0} → List A → ℕ → Option A
look [] n = None
look (x ∷ xs) zero = Some x
look (x ∷ xs) (suc n) = look xs n
