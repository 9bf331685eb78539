-- Strings one after another, and the bytes that they are kept as.
use Rattle.std.specs.Prelude.{ℕ, zero, suc, List, [], ◌∷◌, ◌≡◌, ◌≢◌, ◌+◌, ◌%◌, ◌<◌, ◌≤◌, get_or, length, take, drop}
use Rattle.std.specs.Cmp.Lexicographic.{slice_cmp}
use Rattle.std.specs.List.{flat_map}
use Rattle.std.specs.Ordering.{nat_cmp}
use Rattle.std.specs.declared.cmp.Ordering.TheVariants.{Less, Greater}

-- a string and its length before it
abbrev pub spelled : List ℕ → List ℕ
spelled string = length string ∷ string

-- strings one after another
abbrev pub spelled_all : List (List ℕ) → List ℕ
spelled_all strings = flat_map spelled strings

-- where the string at a place begins
abbrev pub start_of : List (List ℕ) → ℕ → ℕ
start_of strings at = length (spelled_all (take at strings))

-- the strings that bytes begin with, at most so many
abbrev pub strings_in : ℕ → List ℕ → List (List ℕ)
strings_in zero bytes = []
strings_in (suc count) [] = []
strings_in (suc count) (size ∷ bytes) = take size bytes ∷ strings_in count (drop size bytes)

-- all of them: each takes a byte at least
abbrev pub strings_of : List ℕ → List (List ℕ)
strings_of bytes = strings_in (length bytes) bytes

-- the bytes are strings, and nothing else
abbrev pub IsPacking : List ℕ → Type 0
IsPacking bytes = bytes ≡ spelled_all (strings_of bytes)

-- where the string at a place begins, and how many there are from it on
pub record IsMark (strings : List (List ℕ)) (mark start tail : ℕ) : Type 0 where
  pub start_is : start ≡ start_of strings mark
  pub all : mark + tail ≡ length strings

-- the bytes are strings, with a mark among them if there are some from it on
pub record IsMarked (bytes : List ℕ) (mark start tail : ℕ) : Type 0 where
  pub packing : IsPacking bytes
  pub marked : 0 < tail → IsMark (strings_of bytes) mark start tail

-- the string stands at none of each step-th places in front of one
abbrev pub IsNowhere : List (List ℕ) → ℕ → List ℕ → ℕ → Type 0
IsNowhere strings step string end = (i : ℕ) → i < end → i % step ≡ 0 → get_or strings i [] ≢ string

-- the first of each step-th places at which the string stands
pub record IsFirst (strings : List (List ℕ)) (step : ℕ) (string : List ℕ) (at : ℕ) : Type 0 where
  pub within : at < length strings
  pub step_is : at % step ≡ 0
  pub string_is : get_or strings at [] ≡ string
  pub first : IsNowhere strings step string at

-- what stands at each even place in front of one is less than the string
abbrev pub AreBelow : List (List ℕ) → List ℕ → ℕ → Type 0
AreBelow strings string end = (i : ℕ) → i < end → i % 2 ≡ 0 → slice_cmp nat_cmp (get_or strings i []) string ≡ Less

-- the string stands at an even place, and what stands at those in front is less
pub record IsReached (strings : List (List ℕ)) (string : List ℕ) (at : ℕ) : Type 0 where
  pub within : at < length strings
  pub even : at % 2 ≡ 0
  pub string_is : get_or strings at [] ≡ string
  pub below : AreBelow strings string at

-- what stands at even places in front of one is less, and what stands there, if that is even and within, is greater
pub record IsPassed (strings : List (List ℕ)) (string : List ℕ) (at : ℕ) : Type 0 where
  pub within : at ≤ length strings
  pub below : AreBelow strings string at
  pub above : at < length strings → (at % 2 ≡ 0) × (slice_cmp nat_cmp (get_or strings at []) string ≡ Greater)
