-- What is left of a write that fails.
use Rattle.std.specs.Prelude.{ℕ, ◌≤◌, List, Option, length, take}
use Rattle.std.specs.Io.KnownBytes.{Appends}

-- a beginning of the bytes was written
abbrev pub IsBegun : Option (List ℕ) → Option (List ℕ) → List ℕ → Type 0
IsBegun old new bytes = (n : ℕ) × (n ≤ length bytes) × Appends old new (take n bytes)
