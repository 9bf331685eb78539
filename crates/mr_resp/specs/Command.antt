-- Command texts: requests in array form of at least one word, with no limit on the whole.
use Rattle.std.specs.Prelude.{◌≡◌, ℕ, ◌<◌, ◌≤◌, ◌⊎◌, List, [], ◌∷◌, ◌++◌, length, take, map, All}
use Rattle.std.specs.Cow.{cow_slice_items}
use Rattle.mr_inline.specs.Language.{Continues, Fails}
use Rattle.mr_resp.specs.Array.{HasArrayFault}
use Rattle.mr_resp.specs.Spelling.{array}
use Rattle.mr_resp.specs.declared.fault.Fault.{Fault}
use Rattle.mr_resp.specs.declared.fault.Fault.TheVariants.{MultibulkLength}
use Rattle.mr_resp.specs.declared.limits.Limits.{Limits}
use Rattle.mr_resp.specs.declared.request.Scan.{Scan}
use Rattle.mr_resp.specs.declared.request.Scan.TheVariants.{Whole, Skip, More, Bad}

-- these words in array form, each and their number within the limits
pub record IsCommand (limits : Limits) (text : List ℕ) (words : List (List ℕ)) : Type 0 where
  pub spelled : text ≡ array words
  pub some : 0 < length words
  pub count : length words ≤ limits.words
  pub each : All (λ word. length word ≤ limits.word) words

abbrev pub IsCommandText : Limits → List ℕ → Type 0
IsCommandText limits text = (words : List (List ℕ)) × IsCommand limits text words

-- The count begins with a 0.
abbrev pub BeginsZero : List ℕ → ℕ → Type 0
BeginsZero front byte = front ++ byte ∷ [] ≡ 42 ∷ 48 ∷ []

-- The fault of the last byte of the shortest doomed beginning: a 0 is no count here, and else it is that of a request.
abbrev pub HasCommandFault : Limits → Fault → List ℕ → ℕ → Type 0
HasCommandFault limits fault front byte = (BeginsZero front byte × (fault ≡ MultibulkLength)) ⊎ ((BeginsZero front byte → ⊥) × HasArrayFault limits fault front byte)

-- The answer for this input: the command text that begins it, with its length; more is wanted; or the input is doomed.
abbrev pub ReadsCommand : Limits → List ℕ → Scan → Type 0
ReadsCommand limits input (Whole words used) = (used ≤ length input) × IsCommand limits (take used input) (map cow_slice_items words.items)
ReadsCommand limits input (Skip used) = ⊥
ReadsCommand limits input More = Continues (IsCommandText limits) input
ReadsCommand limits input (Bad fault) = Fails (IsCommandText limits) (HasCommandFault limits fault) input

-- A command text begins the input.
pub record BeginsWithCommand (limits : Limits) (input : List ℕ) : Type 0 where
  pub words : List (List ℕ)
  pub used : ℕ
  pub inside : used ≤ length input
  pub command : IsCommand limits (take used input) words
