-- The part of a list that two inclusive indexes name.
use Rattle.std.specs.Prelude.{ℕ, ◌+◌, ◌≤◌, ℤ, pos, negsuc, ◌+ℤ◌, List, [], ◌||◌, if◌then◌else◌, Option, Some, None, unsigned_abs, int_le, int_lt, slice_range}
use Rattle.std.specs.Int.{int_min, int_max}

-- the place that an index means among n: a negative one counts from the end, where -1 is the last place
abbrev pub place_of : ℤ → ℕ → ℤ
place_of (pos i) n = pos i
place_of (negsuc k) n = pos n +ℤ negsuc k

-- the place that an index names among n, if it is one of them
unfoldable pub named_place : ℤ → ℕ → Option ℕ
named_place i n = if int_lt (place_of i n) (pos 0) || int_le (pos n) (place_of i n) then None else Some (unsigned_abs (place_of i n))

-- the places from the first to the last, if there are any
abbrev pub from_to : ℤ → ℤ → Option (ℕ × ℕ)
from_to first last = if int_lt last first then None else Some (unsigned_abs first, unsigned_abs last)

-- The first and the last place, both within the n: a first place below 0 becomes 0 and a last one past
-- the end becomes the last place. There are none where the first is then greater than the last.
unfoldable pub window_of : ℤ → ℤ → ℕ → Option (ℕ × ℕ)
window_of a b n = from_to (int_max (pos 0) (place_of a n)) (int_min (place_of b n) (place_of (negsuc 0) n))

-- the place is one of the window's
abbrev pub IsInWindow : Option (ℕ × ℕ) → ℕ → Type 0
IsInWindow None p = ⊥
IsInWindow (Some w) p = (w.0 ≤ p) × (p ≤ w.1)

-- what a list has in the window
abbrev pub windowed : {X : Type 0} → Option (ℕ × ℕ) → List X → List X
windowed None xs = []
windowed (Some w) xs = slice_range xs w.0 (w.1 + 1)
