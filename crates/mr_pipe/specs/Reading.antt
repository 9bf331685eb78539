-- One read.
use Rattle.std.specs.Prelude.{◌≡◌, ◌≤◌, ℕ, List, length, take, Option, Some, None}
use Rattle.std.specs.Io.KnownBytes.{Consumes, IsAtEnd, Keeps}

-- so many bytes came, none only at the end; or the read was interrupted, and nothing changed
abbrev pub IsRead : Option (List ℕ) → Option (List ℕ) → List ℕ → Option ℕ → Type 0
IsRead before after buffer None = Keeps before after
IsRead before after buffer (Some n) = (n ≤ length buffer) × Consumes before after (take n buffer) × (n ≡ 0 → IsAtEnd after)
