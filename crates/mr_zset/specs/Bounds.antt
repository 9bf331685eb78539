-- The bounds of a range of scores.
use Rattle.std.specs.Prelude.{ℤ, Bool, true, false, ◌&&◌, int_le, int_lt}
use Rattle.mr_zset.specs.declared.bound.Bound.{Bound}
use Rattle.mr_zset.specs.declared.bound.Bound.TheVariants.{NegativeInfinity, Included, Excluded, PositiveInfinity}

-- the score is not below a range that begins at the bound
abbrev pub is_from : Bound → ℤ → Bool
is_from NegativeInfinity z = true
is_from (Included n) z = int_le n z
is_from (Excluded n) z = int_lt n z
is_from PositiveInfinity z = false

-- the score is not above a range that ends at the bound
abbrev pub is_to : Bound → ℤ → Bool
is_to NegativeInfinity z = false
is_to (Included n) z = int_le z n
is_to (Excluded n) z = int_lt z n
is_to PositiveInfinity z = true

abbrev pub is_within : Bound → Bound → ℤ → Bool
is_within from to z = is_from from z && is_to to z
