-- What a step is given from outside.
use Rattle.std.specs.Prelude.{ℕ, ℤ, pos, ◌≤ℤ◌, ◌^◌}

-- no moment is later, in milliseconds
abbrev pub last_moment : ℕ
last_moment = 2 ^ 61

-- a moment, in milliseconds
abbrev pub IsMoment : ℤ → Type 0
IsMoment now = (pos 0 ≤ℤ now) × (now ≤ℤ pos last_moment)
