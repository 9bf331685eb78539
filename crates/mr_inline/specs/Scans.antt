-- What a reader of lines answers.
use Rattle.std.specs.Prelude.{◌≢◌, ℕ, ◌≤◌, List, length, take, map, All}
use Rattle.std.proofs.Common.{Global}
use Rattle.std.specs.List.{AllZip}
use Rattle.std.specs.Cow.{cow_slice_items, IsBorrowedSlice}
use Rattle.std.specs.declared.borrow.CowSlice.{CowSlice}
use Rattle.mr_inline.specs.Bytes.{double_quote, single_quote}
use Rattle.mr_inline.specs.Language.{Continues, Fails}
use Rattle.mr_inline.specs.Line.{word_text, IsLineOf, IsLine, IsBlank, IsLineText, HasLineFault}
use Rattle.mr_inline.specs.declared.scan.LineScan.{LineScan}
use Rattle.mr_inline.specs.declared.scan.LineScan.TheVariants.{Whole, Skip, More, Bad}

-- The answer for this input: the line that begins it, with its length; a line without words; more is wanted; or the input is
-- doomed, and the fault is that of its shortest doomed beginning.
abbrev pub ReadsLine : ℕ → List ℕ → LineScan → Type 0
ReadsLine limit input (Whole words used) = (used ≤ length input) × IsLine limit (take used input) (map cow_slice_items words.items)
ReadsLine limit input (Skip used) = (used ≤ length input) × IsBlank limit (take used input)
ReadsLine limit input More = Continues (IsLineText limit) input
ReadsLine limit input (Bad fault) = Fails (IsLineText limit) (HasLineFault limit fault) input

-- A line with words begins the input.
pub record BeginsWithLine (limit : ℕ) (input : List ℕ) : Type 0 where
  pub words : List (List ℕ)
  pub used : ℕ
  pub inside : used ≤ length input
  pub line : IsLine limit (take used input) words

abbrev pub IsMore : LineScan → Type 0
IsMore (Whole words used) = ⊥
IsMore (Skip used) = ⊥
IsMore More = Unit {0}
IsMore (Bad fault) = ⊥

-- no quote stands in these bytes
abbrev pub HasNoQuote : List ℕ → Type 0
HasNoQuote bytes = All (λ b. (b ≢ double_quote) × (b ≢ single_quote)) bytes

-- However the line is parsed, each word in whose own text no quote stands is borrowed, and no copy.
abbrev pub BorrowsUnquoted : ℕ → List ℕ → List (CowSlice ℕ Global) → Type 0
BorrowsUnquoted limit text words = (line : IsLineOf limit text (map cow_slice_items words)) → AllZip (λ part word. HasNoQuote (word_text part.word) → IsBorrowedSlice word) line.parts words

-- the same of an answer
abbrev pub CopiesOnlyQuoted : ℕ → List ℕ → LineScan → Type 0
CopiesOnlyQuoted limit input (Whole words used) = BorrowsUnquoted limit (take used input) words.items
CopiesOnlyQuoted limit input (Skip used) = Unit {0}
CopiesOnlyQuoted limit input More = Unit {0}
CopiesOnlyQuoted limit input (Bad fault) = Unit {0}
