-- Requests on a line of their own: which bytes are a line of which words.
use Rattle.std.specs.Prelude.{◌≡◌, ◌≢◌, ℕ, ◌+◌, ◌-◌, ◌*◌, ◌<◌, ◌≤◌, ◌⊎◌, nat_le, if◌then◌else◌, ◌==◌, ◌&&◌, Bool, false, IsTrue, List, [], ◌∷◌, ◌++◌, length, map, All}
use Rattle.std.specs.Char.{is_ascii_hexdigit}
use Rattle.std.specs.List.{flat_map}
use Rattle.mr_inline.specs.Bytes.{line_feed, double_quote, single_quote, star, backslash, letter_x, is_separator}
use Rattle.mr_inline.specs.declared.fault.LineFault.{LineFault}
use Rattle.mr_inline.specs.declared.fault.LineFault.TheVariants.{UnbalancedQuotes, TooBig}

abbrev pub IsSeparator : ℕ → Type 0
IsSeparator b = IsTrue (is_separator b)

-- a byte of a word that stands for itself outside quotes
pub record IsPlain (b : ℕ) : Type 0 where
  pub no_separator : is_separator b ≡ false
  pub no_line_feed : b ≢ line_feed
  pub no_double : b ≢ double_quote
  pub no_single : b ≢ single_quote

abbrev pub hex_value : ℕ → ℕ
hex_value c = if nat_le c 57 then c - 48 else if nat_le c 70 then c - 55 else c - 87

-- what a byte after `\` stands for: a line feed, a carriage return, a tab, or itself
abbrev pub escape_value : ℕ → ℕ
escape_value c = if c == 110 then 10 else if c == 114 then 13 else if c == 116 then 9 else c

-- In double quotes: a byte, `\` and a byte, or `\x` and two hexadecimal digits.
pub data Item : Type 0 where
  itself : ℕ → Item
  escape : ℕ → Item
  hex : ℕ → ℕ → Item

abbrev pub item_text : Item → List ℕ
item_text (itself b) = b ∷ []
item_text (escape c) = backslash ∷ c ∷ []
item_text (hex high low) = backslash ∷ letter_x ∷ high ∷ low ∷ []

abbrev pub item_value : Item → ℕ
item_value (itself b) = b
item_value (escape c) = escape_value c
item_value (hex high low) = 16 * hex_value high + hex_value low

-- two hexadecimal digits come next
abbrev pub begins_hex : List ℕ → Bool
begins_hex [] = false
begins_hex (high ∷ []) = false
begins_hex (high ∷ low ∷ rest) = is_ascii_hexdigit high && is_ascii_hexdigit low

-- No line feed stands in quotes. `\x` stands for `x` only where no two hexadecimal digits follow.
abbrev pub AreItems : List Item → Type 0
AreItems [] = Unit {0}
AreItems (itself b ∷ items) = (b ≢ double_quote) × (b ≢ backslash) × (b ≢ line_feed) × AreItems items
AreItems (escape c ∷ items) = (c ≢ line_feed) × (c ≡ letter_x → begins_hex (flat_map item_text items) ≡ false) × AreItems items
AreItems (hex high low ∷ items) = IsTrue (is_ascii_hexdigit high) × IsTrue (is_ascii_hexdigit low) × AreItems items

-- In single quotes: a byte, or `\'`.
pub data Mark : Type 0 where
  sign : ℕ → Mark
  quote : Mark

abbrev pub mark_text : Mark → List ℕ
mark_text (sign b) = b ∷ []
mark_text quote = backslash ∷ single_quote ∷ []

abbrev pub mark_value : Mark → ℕ
mark_value (sign b) = b
mark_value quote = single_quote

-- this byte comes next
abbrev pub IsNext : ℕ → List ℕ → Type 0
IsNext b [] = ⊥
IsNext b (c ∷ bytes) = c ≡ b

-- No line feed stands in quotes. `\` stands for itself only where no `'` follows, also no closing one.
abbrev pub AreMarks : List Mark → Type 0
AreMarks [] = Unit {0}
AreMarks (sign b ∷ marks) = (b ≢ single_quote) × (b ≢ line_feed) × (b ≡ backslash → IsNext single_quote (flat_map mark_text marks ++ single_quote ∷ []) → ⊥) × AreMarks marks
AreMarks (quote ∷ marks) = AreMarks marks

-- how a word ends: without quotes, or in a quoted part, after whose closing quote nothing of the word may stand
pub data Ending : Type 0 where
  bare : Ending
  double : List Item → Ending
  single : List Mark → Ending

-- plain bytes, and how the word ends
pub record Word : Type 0 where
  pub plain : List ℕ
  pub ending : Ending

abbrev pub ending_text : Ending → List ℕ
ending_text bare = []
ending_text (double items) = double_quote ∷ (flat_map item_text items ++ double_quote ∷ [])
ending_text (single marks) = single_quote ∷ (flat_map mark_text marks ++ single_quote ∷ [])

abbrev pub ending_value : Ending → List ℕ
ending_value bare = []
ending_value (double items) = map item_value items
ending_value (single marks) = map mark_value marks

-- A word without quotes has some byte; one with quotes may stand for none.
abbrev pub IsEnding : List ℕ → Ending → Type 0
IsEnding plain bare = 0 < length plain
IsEnding plain (double items) = AreItems items
IsEnding plain (single marks) = AreMarks marks

abbrev pub word_text : Word → List ℕ
word_text word = word.plain ++ ending_text word.ending

abbrev pub word_value : Word → List ℕ
word_value word = word.plain ++ ending_value word.ending

abbrev pub IsWord : Word → Type 0
IsWord word = All IsPlain word.plain × IsEnding word.plain word.ending

-- a word, and the separators before it
pub record Part : Type 0 where
  pub gap : List ℕ
  pub word : Word

abbrev pub part_text : Part → List ℕ
part_text part = part.gap ++ word_text part.word

abbrev pub part_value : Part → List ℕ
part_value part = word_value part.word

abbrev pub IsLaterPart : Part → Type 0
IsLaterPart part = (0 < length part.gap) × All IsSeparator part.gap × IsWord part.word

-- There are separators between two words, and there may be some before the first.
abbrev pub AreParts : List Part → Type 0
AreParts [] = Unit {0}
AreParts (first ∷ later) = All IsSeparator first.gap × IsWord first.word × All IsLaterPart later

-- A line of these words, perhaps of none: its text with the line feed, before which at most `limit` bytes stand. What begins
-- with `*` is no line.
pub record IsLineOf (limit : ℕ) (text : List ℕ) (words : List (List ℕ)) : Type 0 where
  pub parts : List Part
  pub after : List ℕ
  pub spelled : text ≡ (flat_map part_text parts ++ after) ++ line_feed ∷ []
  pub are_parts : AreParts parts
  pub separators : All IsSeparator after
  pub means : words ≡ map part_value parts
  pub size : length text ≤ limit + 1
  pub no_array : IsNext star text → ⊥

-- a line of these words, at least one
abbrev pub IsLine : ℕ → List ℕ → List (List ℕ) → Type 0
IsLine limit text words = (0 < length words) × IsLineOf limit text words

-- a line without words
abbrev pub IsBlank : ℕ → List ℕ → Type 0
IsBlank limit text = IsLineOf limit text []

abbrev pub IsLineText : ℕ → List ℕ → Type 0
IsLineText limit text = ((words : List (List ℕ)) × IsLine limit text words) ⊎ IsBlank limit text

-- the byte would be one more than a line has room for
abbrev pub IsTooBig : ℕ → List ℕ → ℕ → Type 0
IsTooBig limit front byte = (length front ≡ limit) × (byte ≢ line_feed)

-- the fault of the last byte of the shortest doomed beginning, by the place where it stands
abbrev pub HasLineFault : ℕ → LineFault → List ℕ → ℕ → Type 0
HasLineFault limit TooBig front byte = IsTooBig limit front byte
HasLineFault limit UnbalancedQuotes front byte = IsTooBig limit front byte → ⊥
