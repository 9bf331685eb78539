-- Requests in array form: words with their lengths.
use Rattle.std.specs.Prelude.{◌≡◌, ℕ, ◌<◌, ◌≤◌, ◌⊎◌, List, [], ◌∷◌, ◌++◌, length, slice_index, All}
use Rattle.std.specs.List.{flat_map}
use Rattle.mr_inline.specs.Language.{Continues}
use Rattle.mr_resp.specs.declared.limits.Limits.{Limits}
use Rattle.mr_resp.specs.declared.fault.Fault.{Fault}
use Rattle.mr_resp.specs.declared.fault.Fault.TheVariants.{MultibulkLength, BulkLength, ExpectedDollar, UnbalancedQuotes, TooBigInline, WordTooBig, TooManyWords}
use Rattle.mr_resp.specs.Spelling.{number_line, bulk, array, minus_one}

-- these words in array form, within the limits
pub record IsArray (limits : Limits) (text : List ℕ) (words : List (List ℕ)) : Type 0 where
  pub spelled : text ≡ array words
  pub some : 0 < length words
  pub count : length words ≤ limits.words
  pub each : All (λ word. length word ≤ limits.word) words
  pub size : length text ≤ limits.text

-- a count of 0 or of -1
abbrev pub IsEmptyArray : List ℕ → Type 0
IsEmptyArray text = (text ≡ array []) ⊎ (text ≡ minus_one)

abbrev pub IsArrayText : Limits → List ℕ → Type 0
IsArrayText limits text = ((words : List (List ℕ)) × IsArray limits text words) ⊎ IsEmptyArray text

-- digits without leading zeros
pub record IsStrict (digits : List ℕ) : Type 0 where
  pub some : 0 < length digits
  pub each : All (λ d. (48 ≤ d) × (d ≤ 57)) digits
  pub no_zero : slice_index digits 0 ≡ 48 → length digits ≡ 1

-- a mark and a whole number, with no line end yet
abbrev pub IsNumber : ℕ → List ℕ → Type 0
IsNumber mark text = (digits : List ℕ) × (text ≡ mark ∷ digits) × IsStrict digits

-- the line of a count
abbrev pub IsCountLine : Limits → List ℕ → Type 0
IsCountLine limits text = ((n : ℕ) × (n ≤ limits.words) × (text ≡ 42 ∷ number_line n)) ⊎ (text ≡ minus_one)

-- a word with its length
abbrev pub IsBulk : Limits → List ℕ → Type 0
IsBulk limits text = (word : List ℕ) × (length word ≤ limits.word) × (text ≡ bulk word)

-- front is a count, some of its words, and this part of the next one
pub record IsInWord (limits : Limits) (front part : List ℕ) : Type 0 where
  pub count : ℕ
  pub words : List (List ℕ)
  pub is : front ≡ (42 ∷ number_line count ++ flat_map bulk words) ++ part
  pub within : count ≤ limits.words
  pub another : length words < count
  pub each : All (λ word. length word ≤ limits.word) words
  pub inside : Continues (IsBulk limits) part

-- The fault of a byte, by the place where it stands: in a word with its length ..
abbrev pub IsWordFault : Fault → List ℕ → ℕ → Type 0
IsWordFault (ExpectedDollar x) part byte = (part ≡ []) × (x ≡ byte)
IsWordFault WordTooBig part byte = IsNumber 36 (part ++ byte ∷ [])
IsWordFault BulkLength part byte = (0 < length part) × (IsNumber 36 (part ++ byte ∷ []) → ⊥)
IsWordFault MultibulkLength part byte = ⊥
IsWordFault TooManyWords part byte = ⊥
IsWordFault UnbalancedQuotes part byte = ⊥
IsWordFault TooBigInline part byte = ⊥

-- .. or in the line of the count
abbrev pub IsCountFault : Fault → List ℕ → ℕ → Type 0
IsCountFault TooManyWords front byte = IsNumber 42 (front ++ byte ∷ [])
IsCountFault MultibulkLength front byte = IsNumber 42 (front ++ byte ∷ []) → ⊥
IsCountFault (ExpectedDollar x) front byte = ⊥
IsCountFault WordTooBig front byte = ⊥
IsCountFault BulkLength front byte = ⊥
IsCountFault UnbalancedQuotes front byte = ⊥
IsCountFault TooBigInline front byte = ⊥

-- The fault of the last byte of the shortest doomed beginning.
abbrev pub HasArrayFault : Limits → Fault → List ℕ → ℕ → Type 0
HasArrayFault limits fault front byte = (Continues (IsCountLine limits) front × IsCountFault fault front byte) ⊎ ((part : List ℕ) × IsInWord limits front part × IsWordFault fault part byte)
