-- What is done to the text that a key holds.
use Rattle.std.specs.Prelude.{ℤ, ◌+ℤ◌, if◌then◌else◌, Option, Some, None}
use Rattle.std.specs.Option.{option_map, option_and_then}
use Rattle.std.specs.Fmt.{signed_decimal}
use Rattle.mr_map.specs.Bytes.{Bytes}
use Rattle.mr_bytes.specs.Number.{is_i64, number_of}
use Rattle.mr_bytes.specs.Words.{fits}

-- the text, where it is within the word limit
abbrev pub fitting : Bytes → Option Bytes
fitting text = if fits text then Some text else None

-- two numbers together, where they come to a number of 64 bits
abbrev pub sum_of : ℤ → ℤ → Option ℤ
sum_of a b = if is_i64 (a +ℤ b) then Some (a +ℤ b) else None

-- the number that a text spells, and this much, together
abbrev pub sum_with : ℤ → Bytes → Option ℤ
sum_with by text = option_and_then (λ n. sum_of n by) (number_of text)

-- .. as a text again
abbrev pub increased : ℤ → Bytes → Option Bytes
increased by text = option_map signed_decimal (sum_with by text)
