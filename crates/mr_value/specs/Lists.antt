-- What is done to lists of byte strings.
use Rattle.std.specs.Prelude.{ℕ, ◌+◌, ◌-◌, suc, zero, min, ℤ, pos, negsuc, List, [], ◌∷◌, get_or, insert, filter, count_by, position, Bool, not, ◌&&◌, nat_lt, if◌then◌else◌, Option, Some, None}
use Rattle.std.specs.List.{list_all}
use Rattle.std.specs.Option.{option_map}
use Rattle.std.specs.Str.{bytes_eq}

-- how many items equal w
abbrev pub count_of : List ℕ → List (List ℕ) → ℕ
count_of w xs = count_by (λ x. bytes_eq x w) xs

-- the place of the first item that equals w
unfoldable pub first_place : List ℕ → List (List ℕ) → Option ℕ
first_place w xs = position (λ x. bytes_eq x w) xs

-- the list with an item put at a place, if there is one
abbrev pub inserted_at : Option ℕ → List ℕ → List (List ℕ) → List (List ℕ)
inserted_at None item xs = xs
inserted_at (Some i) item xs = insert xs i item

-- the list with an item put before the first pivot, or the same list where there is none
unfoldable pub with_before : List ℕ → List ℕ → List (List ℕ) → List (List ℕ)
with_before pivot item xs = inserted_at (first_place pivot xs) item xs

-- the same with the item after the first pivot
unfoldable pub with_after : List ℕ → List ℕ → List (List ℕ) → List (List ℕ)
with_after pivot item xs = inserted_at (option_map (λ i. i + 1) (first_place pivot xs)) item xs

-- without the first items that equal w, at most n of them
abbrev pub without_first : ℕ → List ℕ → List (List ℕ) → List (List ℕ)
without_first n w [] = []
without_first n w (x ∷ xs) = if nat_lt 0 n && bytes_eq x w then without_first (n - 1) w xs else x ∷ without_first n w xs

-- Without the last items that equal w, at most n of them: an item goes where fewer than n after it equal w.
abbrev pub without_last : ℕ → List ℕ → List (List ℕ) → List (List ℕ)
without_last n w [] = []
without_last n w (x ∷ xs) = if nat_lt (count_of w xs) n && bytes_eq x w then without_last n w xs else x ∷ without_last n w xs

-- without every item that equals w
abbrev pub without_all : List ℕ → List (List ℕ) → List (List ℕ)
without_all w xs = filter (λ x. not (bytes_eq x w)) xs

-- Without items that equal w: the first ones where the count is above 0, the last ones where it is below,
-- and all where it is 0.
abbrev pub without : ℤ → List ℕ → List (List ℕ) → List (List ℕ)
without (pos zero) w xs = without_all w xs
without (pos (suc n)) w xs = without_first (suc n) w xs
without (negsuc n) w xs = without_last (suc n) w xs

-- how many of m equal items go
abbrev pub removed_count : ℤ → ℕ → ℕ
removed_count (pos zero) m = m
removed_count (pos (suc n)) m = min (suc n) m
removed_count (negsuc n) m = min (suc n) m

-- the items equal one another
unfoldable pub are_equal : List (List ℕ) → Bool
are_equal xs = list_all (λ x. bytes_eq x (get_or xs 0 [])) xs
