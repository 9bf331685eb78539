-- How much may wait.
use Rattle.std.specs.Prelude.{ℕ}

-- a client on whose link more bytes wait is closed in place of its next step: 64 MiB
abbrev pub most_unsent : ℕ
most_unsent = 67108864
