-- Amounts of time, within a limit.
use Rattle.std.specs.Prelude.{ℤ, pos, ◌*ℤ◌, ◌^◌, Bool, nat_le, unsigned_abs, if◌then◌else◌, Option, Some, None}

-- milliseconds from -2^61 to 2^61
abbrev pub is_amount : ℤ → Bool
is_amount n = nat_le (unsigned_abs n) (2 ^ 61)

-- so many seconds, in milliseconds
abbrev pub of_seconds : ℤ → ℤ
of_seconds n = n *ℤ pos 1000

-- so many seconds, if they are within the limit
abbrev pub seconds_of : ℤ → Option ℤ
seconds_of n = if is_amount (of_seconds n) then Some n else None

-- so many milliseconds, if they are within the limit
abbrev pub milliseconds_of : ℤ → Option ℤ
milliseconds_of n = if is_amount n then Some n else None
