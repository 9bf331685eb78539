-- A text that is shared, among what waits.
use Rattle.std.specs.Prelude.{ℕ, List, [], ◌++◌, drop, Option, None, Some}

-- what waits from a text on of which so many bytes were moved, nothing where there is none
abbrev pub from_text : Option (List ℕ) → ℕ → List ℕ → List ℕ
from_text None gone later = []
from_text (Some text) gone later = drop gone text ++ later
