-- Why no request goes on with a byte.
use Rattle.std.specs.Prelude.{◌≡◌, ◌≢◌, ℕ, ◌+◌, ◌-◌, ◌*◌, ◌<◌, ◌≤◌, ◌^◌, ◌⊎◌, List, [], ◌∷◌, ◌++◌, length, All}
use Rattle.std.specs.Fmt.{decimal}
use Rattle.std.specs.List.{flat_map}
use Rattle.mr_inline.specs.Language.{IsDoomed}
use Rattle.mr_inline.specs.Line.{IsTooBig}
use Rattle.mr_inline.specs.Reasons.{IsUnbalanced}
use Rattle.mr_inline.specs.Limits.{line_limit}
use Rattle.mr_resp.specs.Spelling.{number_line, bulk, minus_one}
use Rattle.mr_resp.specs.declared.fault.Fault.{Fault}
use Rattle.mr_resp.specs.declared.fault.Fault.TheVariants.{MultibulkLength, BulkLength, ExpectedDollar, UnbalancedQuotes, TooBigInline, WordTooBig, TooManyWords}
use Rattle.mr_resp.specs.declared.limits.Limits.{Limits}

-- a count with its line end, without any limit, or the null array
abbrev pub IsSomeCount : List ℕ → Type 0
IsSomeCount text = ((n : ℕ) × (n < 2 ^ 64) × (text ≡ 42 ∷ number_line n)) ⊎ (text ≡ minus_one)

-- a word with its length, without any limit
abbrev pub IsSomeWord : List ℕ → Type 0
IsSomeWord text = (word : List ℕ) × (length word < 2 ^ 64) × (text ≡ bulk word)

-- The count is a number past the limit on it.
pub record CountsTooMany (limits : Limits) (front : List ℕ) (byte : ℕ) : Type 0 where
  pub count : ℕ
  pub is : front ++ byte ∷ [] ≡ 42 ∷ decimal count
  pub past : limits.words < count

-- a count and some of its words, behind which another is to come
pub record IsBeforeWord (limits : Limits) (front : List ℕ) : Type 0 where
  pub count : ℕ
  pub words : List (List ℕ)
  pub is : front ≡ 42 ∷ number_line count ++ flat_map bulk words
  pub within : count ≤ limits.words
  pub each : All (λ word. length word ≤ limits.word) words
  pub another : length words < count

-- Something else than a `$` stands where a word should begin.
pub record LacksMark (limits : Limits) (front : List ℕ) (byte : ℕ) : Type 0 where
  pub place : IsBeforeWord limits front
  pub no_mark : byte ≢ 36

-- how many bytes a word of this size takes, with its length and line ends
abbrev pub word_takes : ℕ → ℕ
word_takes size = length (decimal size) + size + 5

-- The length of a word passes the limit on words, or the word passes the limit on the text even if each later one is empty.
pub record IsTooLong (limits : Limits) (front : List ℕ) (byte : ℕ) : Type 0 where
  pub before : List ℕ
  pub place : IsBeforeWord limits before
  pub size : ℕ
  pub is : front ++ byte ∷ [] ≡ before ++ 36 ∷ decimal size
  pub past : (limits.word < size) ⊎ (limits.text < length before + word_takes size + 6 * (place.count - length place.words - 1))

-- No word of any length begins so: its length is no number, or a line end is missing.
pub record BreaksWord (limits : Limits) (front : List ℕ) (byte : ℕ) : Type 0 where
  pub before : List ℕ
  pub place : IsBeforeWord limits before
  pub part : List ℕ
  pub is : front ≡ before ++ part
  pub some : 0 < length part
  pub doomed : IsDoomed IsSomeWord (part ++ byte ∷ [])

abbrev pub IsReason : Limits → Fault → List ℕ → ℕ → Type 0
IsReason limits MultibulkLength front byte = IsDoomed IsSomeCount (front ++ byte ∷ [])
IsReason limits BulkLength front byte = BreaksWord limits front byte
IsReason limits (ExpectedDollar x) front byte = (x ≡ byte) × LacksMark limits front byte
IsReason limits UnbalancedQuotes front byte = IsUnbalanced line_limit front byte
IsReason limits TooBigInline front byte = IsTooBig line_limit front byte
IsReason limits WordTooBig front byte = IsTooLong limits front byte
IsReason limits TooManyWords front byte = CountsTooMany limits front byte

-- a count of at least one word with its line end, without any other limit
abbrev pub IsSomeWordCount : List ℕ → Type 0
IsSomeWordCount text = (n : ℕ) × (0 < n) × (n < 2 ^ 64) × (text ≡ 42 ∷ number_line n)

-- The length of a word passes the limit on words.
pub record PassesWordLimit (limits : Limits) (front : List ℕ) (byte : ℕ) : Type 0 where
  pub before : List ℕ
  pub place : IsBeforeWord limits before
  pub size : ℕ
  pub is : front ++ byte ∷ [] ≡ before ++ 36 ∷ decimal size
  pub past : limits.word < size

-- Why no command text goes on with a byte: its count is of at least one word, the whole has no limit, and it is never a line.
abbrev pub IsCommandReason : Limits → Fault → List ℕ → ℕ → Type 0
IsCommandReason limits MultibulkLength front byte = IsDoomed IsSomeWordCount (front ++ byte ∷ [])
IsCommandReason limits BulkLength front byte = BreaksWord limits front byte
IsCommandReason limits (ExpectedDollar x) front byte = (x ≡ byte) × LacksMark limits front byte
IsCommandReason limits UnbalancedQuotes front byte = ⊥
IsCommandReason limits TooBigInline front byte = ⊥
IsCommandReason limits WordTooBig front byte = PassesWordLimit limits front byte
IsCommandReason limits TooManyWords front byte = CountsTooMany limits front byte
