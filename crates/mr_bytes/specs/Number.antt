-- The one spelling of a whole number of 64 bits.
use Rattle.std.specs.Prelude.{ℕ, ℤ, pos, neg_ℤ, ◌^◌, List, drop, Bool, ◌&&◌, nat_lt, if◌then◌else◌, Option, Some, None}
use Rattle.std.specs.Fmt.{signed_decimal}
use Rattle.std.specs.Int.Signed.{mag}
use Rattle.std.specs.Str.{bytes_eq}
use Rattle.std.specs.Str.Parse.{digits_value, starts_with_minus}

-- within 64 bits (mag z is z, or below zero its distance from -1)
abbrev pub is_i64 : ℤ → Bool
is_i64 z = nat_lt (mag z) (2 ^ 63)

-- what the digits say, below zero after a minus
abbrev pub value_of : List ℕ → ℤ
value_of bs = if starts_with_minus bs then neg_ℤ (pos (digits_value 10 (drop 1 bs))) else pos (digits_value 10 bs)

-- The number of 64 bits whose spelling these bytes are, if there is one: no plus, no leading zero, no -0.
unfoldable pub number_of : List ℕ → Option ℤ
number_of bs = if is_i64 (value_of bs) && bytes_eq (signed_decimal (value_of bs)) bs then Some (value_of bs) else None
