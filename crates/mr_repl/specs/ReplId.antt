-- Replication ids as lists of bytes, and their texts.
use Rattle.std.specs.Prelude.{◌≡◌, ◌↔◌, ℕ, Bool, ◌&&◌, ◌||◌, nat_le, List, ◌++◌, length, replicate}
use Rattle.std.specs.List.{AllPass}
use Rattle.std.specs.Int.{to_be_bytes, w64}
use Rattle.hex.specs.Hex.{encode_lower, IsBytes}

-- an id is twenty bytes
pub record IsId (id : List ℕ) : Type 0 where
  pub long : length id ≡ 20
  pub bytes : IsBytes id

-- the text of an id: forty lower-case hexadecimal digits, two for each byte, the higher first
abbrev pub digits_of : List ℕ → List ℕ
digits_of id = encode_lower id

-- the id whose digits are all zeros
abbrev pub zero_id : List ℕ
zero_id = replicate 20 0

-- the id whose digits are a number below 2^64: its eight bytes, the highest first, behind twelve zeros
abbrev pub id_of_number : ℕ → List ℕ
id_of_number n = replicate 12 0 ++ to_be_bytes w64 n

-- 0 to 9 and a to f
abbrev pub is_lower_digit : ℕ → Bool
is_lower_digit c = (nat_le 48 c && nat_le c 57) || (nat_le 97 c && nat_le c 102)

-- forty lower-case hexadecimal digits
pub record IsIdText (text : List ℕ) : Type 0 where
  pub long : length text ≡ 40
  pub digits : AllPass is_lower_digit text

-- the texts of ids are those
abbrev pub TextsAreForty : Type 0
TextsAreForty = (text : List ℕ) → IsIdText text ↔ ((id : List ℕ) × IsId id × (digits_of id ≡ text))
