-- What is told while the system's clock stands below what was told.
use Rattle.std.specs.Prelude.{ℕ, ℤ, pos, min, nat_abs, ◌+◌, ◌/◌}
use Rattle.mr_data.specs.Given.{last_moment}

-- the moment that is told after this one at half the pace, when so many milliseconds have passed, and the last one where it would be later
abbrev pub at_half_pace : ℤ → ℕ → ℤ
at_half_pace from passed = pos (min (nat_abs from + passed / 2) last_moment)
