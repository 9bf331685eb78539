-- Why no line goes on with a byte.
use Rattle.std.specs.Prelude.{◌≡◌, ◌≢◌, ℕ, ◌+◌, ◌<◌, ◌⊎◌, Bool, false, List, [], ◌∷◌, ◌++◌, length}
use Rattle.mr_inline.specs.Bytes.{line_feed, is_separator}
use Rattle.mr_inline.specs.Places.{turn_of, need_of}
use Rattle.mr_inline.specs.declared.place.Place.{Place}
use Rattle.mr_inline.specs.declared.place.Place.TheVariants.{Between, Plain, Double, DoubleEscape, Single, SingleEscape, Closed}
use Rattle.mr_inline.specs.declared.place.Turn.TheVariants.{Goes}

-- A quote is open here.
abbrev pub IsInQuotes : Place → Type 0
IsInQuotes Between = ⊥
IsInQuotes Plain = ⊥
IsInQuotes Double = Unit {0}
IsInQuotes DoubleEscape = Unit {0}
IsInQuotes Single = Unit {0}
IsInQuotes SingleEscape = Unit {0}
IsInQuotes Closed = ⊥

-- The byte is a line feed in quotes.
pub record EndsInQuotes (front : List ℕ) (byte : ℕ) : Type 0 where
  pub place : Place
  pub leads : turn_of front ≡ Goes place
  pub quoted : IsInQuotes place
  pub ends : byte ≡ line_feed

-- The byte stands behind a closing quote, and is neither a separator nor a line feed.
pub record FollowsQuote (front : List ℕ) (byte : ℕ) : Type 0 where
  pub leads : turn_of front ≡ Goes Closed
  pub no_separator : is_separator byte ≡ false
  pub no_line_feed : byte ≢ line_feed

-- Behind the byte a quote is open, and what closes it no longer fits the limit.
pub record ClosesTooLate (limit : ℕ) (front : List ℕ) (byte : ℕ) : Type 0 where
  pub place : Place
  pub leads : turn_of (front ++ byte ∷ []) ≡ Goes place
  pub quoted : IsInQuotes place
  pub late : limit < length front + 1 + need_of place

abbrev pub IsUnbalanced : ℕ → List ℕ → ℕ → Type 0
IsUnbalanced limit front byte = EndsInQuotes front byte ⊎ (FollowsQuote front byte ⊎ ClosesTooLate limit front byte)
