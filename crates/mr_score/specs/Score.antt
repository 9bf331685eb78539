-- Scores: whole numbers that a double holds exactly.
use Rattle.std.specs.Prelude.{ℤ, ◌^◌, Bool, nat_le, unsigned_abs}

-- from -2^53 to 2^53
abbrev pub is_score : ℤ → Bool
is_score z = nat_le (unsigned_abs z) (2 ^ 53)
