-- The bytes that mean something in a line.
use Rattle.std.specs.Prelude.{ℕ, Bool, ◌==◌, ◌||◌}

abbrev pub line_feed : ℕ
line_feed = 10

abbrev pub double_quote : ℕ
double_quote = 34

abbrev pub single_quote : ℕ
single_quote = 39

abbrev pub star : ℕ
star = 42

abbrev pub backslash : ℕ
backslash = 92

abbrev pub letter_x : ℕ
letter_x = 120

-- a space, or one of the four controls that separate words, a carriage return among them
abbrev pub is_separator : ℕ → Bool
is_separator b = b == 32 || b == 9 || b == 11 || b == 12 || b == 13
