-- At which places of a text a pattern may begin to match.
use Rattle.std.specs.Prelude.{◌≡◌, ℕ, ◌<◌, ◌≤◌, List, ◌++◌, Bool, true, ◌==◌, length, drop, slice_index, All}
use Rattle.std.specs.Int.{bit_at}
use Rattle.mr_glob.specs.GlobSteps.{whole, somewhere}
use Rattle.mr_glob.specs.GlobWords.{IsPlain}
use Rattle.mr_glob.specs.declared.pattern.place.Segment.{Segment}

-- the bit of a place
abbrev pub is_set : ℕ → ℕ → Bool
is_set mask k = bit_at mask k == 1

-- of 64 bytes, a bit is set for each that the test takes
abbrev pub Marks : (ℕ → Bool) → List ℕ → ℕ → Type 0
Marks test bytes mask = (k : ℕ) → k < 64 → is_set mask k ≡ test (slice_index bytes k)

-- the bytes that a text begins with, up to 64 of them
abbrev pub IsFrontOf : List ℕ → List ℕ → Type 0
IsFrontOf bytes text = (k : ℕ) → k < 64 → k < length text → slice_index bytes k ≡ slice_index text k

-- of a text's first 64 places, a bit is set for each from which on the pattern matches the text
abbrev pub HasPlaces : List ℕ → List ℕ → ℕ → Type 0
HasPlaces pattern text mask = (k : ℕ) → k < 64 → k ≤ length text → whole pattern (drop k text) ≡ true → is_set mask k ≡ true

-- Some rest of the text matches just where one does of what is behind the place.
pub record Skips (pattern text : List ℕ) (place : ℕ) : Type 0 where
  pub within : place ≤ length text
  pub same : somewhere pattern text ≡ somewhere pattern (drop place text)

-- A text that the pattern matches has a byte for each part before the first `*`, and where there is no `*` no other.
pub record Measures (pattern : List ℕ) (segment : Segment) : Type 0 where
  pub fits : (text : List ℕ) → whole pattern text ≡ true → segment.len ≤ length text
  pub exact : segment.is_last ≡ true → (text : List ℕ) → whole pattern text ≡ true → length text ≡ segment.len

-- The pattern begins with these bytes, each of which stands for itself, and a `*`.
pub record BeginsPlain (pattern bytes : List ℕ) : Type 0 where
  pub plain : All IsPlain bytes
  pub rest : List ℕ
  pub is : pattern ≡ bytes ++ rest
