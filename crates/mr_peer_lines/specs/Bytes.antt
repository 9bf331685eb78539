-- The bytes that mean something in a line between nodes.
use Rattle.std.specs.Prelude.{ℕ, Bool, ◌==◌, ◌||◌}

abbrev pub carriage_return : ℕ
carriage_return = 13

abbrev pub line_feed : ℕ
line_feed = 10

abbrev pub plus : ℕ
plus = 43

abbrev pub minus : ℕ
minus = 45

abbrev pub dollar : ℕ
dollar = 36

abbrev pub space : ℕ
space = 32

-- a byte of a line end
abbrev pub ends_line : ℕ → Bool
ends_line b = b == carriage_return || b == line_feed

-- one of the three bytes with which a line begins
abbrev pub is_mark : ℕ → Bool
is_mark b = b == plus || b == minus || b == dollar
