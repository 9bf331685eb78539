-- A line, read byte by byte: where each byte stands, and what it does.
use Rattle.std.specs.Prelude.{ℕ, ◌+◌, ◌*◌, ◌==◌, ◌&&◌, if◌then◌else◌, Bool, true, false, List, [], ◌∷◌, drop, map, fold}
use Rattle.mr_inline.specs.Bytes.{line_feed, double_quote, single_quote, backslash, letter_x, is_separator}
use Rattle.mr_inline.specs.Line.{begins_hex, hex_value, escape_value}
use Rattle.mr_inline.specs.declared.place.Kind.{Kind}
use Rattle.mr_inline.specs.declared.place.Kind.TheVariants.{LineFeed, Separator, DoubleQuote, SingleQuote, Backslash, Other}
use Rattle.mr_inline.specs.declared.place.Place.{Place}
use Rattle.mr_inline.specs.declared.place.Place.TheVariants.{Between, Plain, Double, DoubleEscape, Single, SingleEscape, Closed}
use Rattle.mr_inline.specs.declared.place.Turn.{Turn}
use Rattle.mr_inline.specs.declared.place.Turn.TheVariants.{Goes, Ends, Breaks}

-- the kind of a byte, by which of the five tests it passes
abbrev pub kind_by : Bool → Bool → Bool → Bool → Bool → Kind
kind_by true is_double is_single is_backslash separates = LineFeed
kind_by false true is_single is_backslash separates = DoubleQuote
kind_by false false true is_backslash separates = SingleQuote
kind_by false false false true separates = Backslash
kind_by false false false false true = Separator
kind_by false false false false false = Other

unfoldable pub kind_of : ℕ → Kind
kind_of b = kind_by (b == line_feed) (b == double_quote) (b == single_quote) (b == backslash) (is_separator b)

-- where the byte after one of this kind stands
abbrev pub next_place : Place → Kind → Place
next_place Between Separator = Between
next_place Between DoubleQuote = Double
next_place Between SingleQuote = Single
next_place Between kind = Plain
next_place Plain Separator = Between
next_place Plain DoubleQuote = Double
next_place Plain SingleQuote = Single
next_place Plain kind = Plain
next_place Double DoubleQuote = Closed
next_place Double Backslash = DoubleEscape
next_place Double kind = Double
next_place DoubleEscape kind = Double
next_place Single SingleQuote = Closed
next_place Single Backslash = SingleEscape
next_place Single kind = Single
next_place SingleEscape Backslash = SingleEscape
next_place SingleEscape kind = Single
next_place Closed Separator = Between
next_place Closed DoubleQuote = Double
next_place Closed SingleQuote = Single
next_place Closed kind = Plain

-- The line goes on, ends, or is broken: by a line feed in quotes, or by what follows a closing quote.
abbrev pub turn_at : Place → Kind → Turn
turn_at Between LineFeed = Ends
turn_at Between kind = Goes (next_place Between kind)
turn_at Plain LineFeed = Ends
turn_at Plain kind = Goes (next_place Plain kind)
turn_at Double LineFeed = Breaks
turn_at Double kind = Goes (next_place Double kind)
turn_at DoubleEscape LineFeed = Breaks
turn_at DoubleEscape kind = Goes (next_place DoubleEscape kind)
turn_at Single LineFeed = Breaks
turn_at Single kind = Goes (next_place Single kind)
turn_at SingleEscape LineFeed = Breaks
turn_at SingleEscape kind = Goes (next_place SingleEscape kind)
turn_at Closed LineFeed = Ends
turn_at Closed Separator = Goes Between
turn_at Closed kind = Breaks

-- A line has ended at its line feed, and nothing follows.
abbrev pub turn_after : Turn → ℕ → Turn
turn_after (Goes place) b = turn_at place (kind_of b)
turn_after Ends b = Breaks
turn_after Breaks b = Breaks

-- where bytes lead from the beginning of a line
abbrev pub turn_of : List ℕ → Turn
turn_of bytes = fold turn_after (Goes Between) bytes

-- how many bytes have to come at least before the line may end
abbrev pub need_of : Place → ℕ
need_of Between = 0
need_of Plain = 0
need_of Double = 1
need_of DoubleEscape = 2
need_of Single = 1
need_of SingleEscape = 2
need_of Closed = 0

abbrev pub hex_of : List ℕ → ℕ
hex_of [] = 0
hex_of (high ∷ []) = 0
hex_of (high ∷ low ∷ rest) = 16 * hex_value high + hex_value low

-- what a byte of a word, after which `rest` follows, and the word's bytes after it stand for, where those stand for `later`
abbrev pub spelled : Place → Kind → ℕ → List ℕ → List ℕ → List ℕ
spelled Between kind b rest later = []
spelled Plain Separator b rest later = []
spelled Plain DoubleQuote b rest later = later
spelled Plain SingleQuote b rest later = later
spelled Plain kind b rest later = b ∷ later
spelled Double DoubleQuote b rest later = []
spelled Double Backslash b rest later = later
spelled Double kind b rest later = b ∷ later
spelled DoubleEscape kind b rest later = if b == letter_x && begins_hex rest then hex_of rest ∷ drop 2 later else escape_value b ∷ later
spelled Single SingleQuote b rest later = []
spelled Single Backslash b rest later = later
spelled Single kind b rest later = b ∷ later
spelled SingleEscape SingleQuote b rest later = single_quote ∷ later
spelled SingleEscape Backslash b rest later = backslash ∷ later
spelled SingleEscape kind b rest later = backslash ∷ b ∷ later
spelled Closed kind b rest later = []

-- what the rest of a word stands for, from this place on
abbrev pub word_from : Place → List ℕ → List ℕ
word_from DoubleEscape [] = backslash ∷ []
word_from SingleEscape [] = backslash ∷ []
word_from place [] = []
word_from place (b ∷ rest) = spelled place (kind_of b) b rest (word_from (next_place place (kind_of b)) rest)

-- the beginnings of words, with one more in front where a byte of this kind begins a word at this place
abbrev pub begun : Place → Kind → List ℕ → List (List ℕ) → List (List ℕ)
begun Between Separator start starts = starts
begun Between kind start starts = start ∷ starts
begun Closed Separator start starts = starts
begun Closed kind start starts = start ∷ starts
begun place kind start starts = starts

-- what is left of the line where each word begins, from this place on
abbrev pub starts_from : Place → List ℕ → List (List ℕ)
starts_from place [] = []
starts_from place (b ∷ rest) = begun place (kind_of b) (b ∷ rest) (starts_from (next_place place (kind_of b)) rest)

-- the words that begin from this place on
abbrev pub words_from : Place → List ℕ → List (List ℕ)
words_from place bytes = map (word_from Plain) (starts_from place bytes)

-- no quote stands in the rest of a word that goes on with a byte of this kind
abbrev pub IsBareAt : Kind → Type 0 → Type 0
IsBareAt Separator later = Unit {0}
IsBareAt DoubleQuote later = ⊥
IsBareAt SingleQuote later = ⊥
IsBareAt LineFeed later = later
IsBareAt Backslash later = later
IsBareAt Other later = later

-- no quote stands in the rest of a word
abbrev pub IsBare : List ℕ → Type 0
IsBare [] = Unit {0}
IsBare (b ∷ rest) = IsBareAt (kind_of b) (IsBare rest)
