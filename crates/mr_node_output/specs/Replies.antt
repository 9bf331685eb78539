-- A reply that a step has of its own, or shares with other steps.
use Rattle.std.specs.Prelude.{ℕ, List, Option, None, Some}

-- the text that is shared, where there is one, and else the step's own bytes
abbrev pub said : Option (List ℕ) → List ℕ → List ℕ
said None own = own
said (Some text) own = text
