-- The items of a command in groups, each of which goes into one effect.
use Rattle.std.specs.Prelude.{ℕ, zero, suc, List, [], ◌∷◌, take, drop, length}

-- so many items are in one effect at most
abbrev pub most_items : ℕ
most_items = 64

-- at most so many groups
abbrev pub groups : {X : Type 0} → ℕ → List X → List (List X)
groups zero xs = []
groups (suc n) [] = []
groups (suc n) (x ∷ xs) = take most_items (x ∷ xs) ∷ groups n (drop most_items (x ∷ xs))

-- in order; each group has the most items that there may be, save the last
abbrev pub cut : {X : Type 0} → List X → List (List X)
cut xs = groups (length xs) xs
