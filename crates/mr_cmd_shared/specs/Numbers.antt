-- Numbers that may be none: a count that a command may name, a deadline, a score.
use Rattle.std.specs.Prelude.{ℕ, ℤ, Bool, true, false, Option, Some, None}
use Rattle.std.specs.Ordering.{int_eq}

abbrev pub count_or_one : Option ℕ → ℕ
count_or_one None = 1
count_or_one (Some n) = n

-- the same number, or none in both
abbrev pub is_same : Option ℤ → Option ℤ → Bool
is_same None None = true
is_same None (Some y) = false
is_same (Some x) None = false
is_same (Some x) (Some y) = int_eq x y
