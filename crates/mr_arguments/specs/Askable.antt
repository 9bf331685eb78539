-- What words can ask for.
use Rattle.std.specs.Prelude.{ℕ, ℤ, pos, IsTrue, Option, Some, None}
use Rattle.mr_bytes.specs.Number.{is_i64}

-- a number of 64 bits
abbrev pub IsI64 : ℤ → Type 0
IsI64 n = IsTrue (is_i64 n)

-- a count that may be left out
abbrev pub IsCount : Option ℕ → Type 0
IsCount None = Unit {0}
IsCount (Some n) = IsI64 (pos n)
