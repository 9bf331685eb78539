-- What the parts of the reader find.
use Rattle.std.specs.Prelude.{◌≡◌, ◌≢◌, ℕ, ◌+◌, ◌<◌, ◌≤◌, List, ◌∷◌, ◌++◌, length, take, drop, slice_range, slice_index}
use Rattle.std.proofs.Common.{Global}
use Rattle.std.specs.Cow.{cow_slice_items, IsBorrowedSlice}
use Rattle.std.specs.declared.borrow.CowSlice.{CowSlice}
use Rattle.mr_inline.specs.Bytes.{line_feed, double_quote, single_quote}
use Rattle.mr_inline.specs.Language.{Continues, Fails}
use Rattle.mr_inline.specs.Line.{IsLineText, HasLineFault}
use Rattle.mr_inline.specs.Places.{kind_of, turn_of, word_from, starts_from, IsBare}
use Rattle.mr_inline.specs.declared.measure.Measured.{Measured}
use Rattle.mr_inline.specs.declared.measure.Measured.TheVariants.{Whole, More, Bad}
use Rattle.mr_inline.specs.declared.place.Kind.{Kind}
use Rattle.mr_inline.specs.declared.place.Kind.TheVariants.{LineFeed, Separator, DoubleQuote, SingleQuote, Backslash, Other}
use Rattle.mr_inline.specs.declared.place.Place.{Place}
use Rattle.mr_inline.specs.declared.place.Place.TheVariants.{Plain, Closed}
use Rattle.mr_inline.specs.declared.place.Turn.TheVariants.{Ends}

-- a byte that is no quote and doesn't end a line
pub record IsUnmarked (b : ℕ) : Type 0 where
  pub no_double : b ≢ double_quote
  pub no_single : b ≢ single_quote
  pub no_line_feed : b ≢ line_feed

-- a byte of this kind doesn't go on with the plain bytes of a word
abbrev pub StopsPlain : Kind → Type 0
StopsPlain LineFeed = ⊥
StopsPlain Separator = Unit {0}
StopsPlain DoubleQuote = Unit {0}
StopsPlain SingleQuote = Unit {0}
StopsPlain Backslash = ⊥
StopsPlain Other = ⊥

-- the first so many bytes are a whole line
pub record EndsAt (limit : ℕ) (input : List ℕ) (used : ℕ) : Type 0 where
  pub some : 0 < used
  pub inside : used ≤ length input
  pub size : used ≤ limit + 1
  pub ends : turn_of (take used input) ≡ Ends

abbrev pub Measures : ℕ → List ℕ → Measured → Type 0
Measures limit input (Whole used) = EndsAt limit input used
Measures limit input More = Continues (IsLineText limit) input
Measures limit input (Bad fault) = Fails (IsLineText limit) (HasLineFault limit fault) input

-- At `at` the line goes on with the spelling of a byte, which ends at `end`; the places in the word are before and after it.
pub record Spells (before after : Place) (line : List ℕ) (at byte end : ℕ) : Type 0 where
  pub forward : at < end
  pub inside : end ≤ length line
  pub word : word_from before (drop at line) ≡ byte ∷ word_from after (drop end line)
  pub starts : starts_from before (drop at line) ≡ starts_from after (drop end line)

-- The rest of a quoted part, from `start` to behind its closing quote at `end`, was put behind `old`.
pub record Unquotes (place : Place) (line : List ℕ) (start end : ℕ) (old new : List ℕ) : Type 0 where
  pub inside : end ≤ length line
  pub forward : start ≤ end
  pub word : new ≡ old ++ word_from place (drop start line)
  pub starts : starts_from place (drop start line) ≡ starts_from Closed (drop end line)

-- The word that begins at `start` ends at `end`.
pub record IsCut (line : List ℕ) (start end : ℕ) (word : List ℕ) : Type 0 where
  pub inside : end ≤ length line
  pub forward : start < end
  pub value : word ≡ word_from Plain (drop start line)
  pub starts : starts_from Plain (drop start line) ≡ starts_from Closed (drop end line)

-- The plain bytes from `start` end at `end`, at a byte of another kind or with the line.
pub record IsPlainUpTo (line : List ℕ) (start end : ℕ) : Type 0 where
  pub inside : end ≤ length line
  pub forward : start ≤ end
  pub value : word_from Plain (drop start line) ≡ slice_range line start end ++ word_from Plain (drop end line)
  pub starts : starts_from Plain (drop start line) ≡ starts_from Plain (drop end line)
  pub bare : IsBare (drop start line) → IsBare (drop end line)
  pub stops : end < length line → StopsPlain (kind_of (slice_index line end))

-- The word that begins here is this one, borrowed if no quote stands in it.
pub record IsReadAt (start : List ℕ) (word : CowSlice ℕ Global) : Type 0 where
  pub value : cow_slice_items word ≡ word_from Plain start
  pub borrowed : IsBare start → IsBorrowedSlice word
