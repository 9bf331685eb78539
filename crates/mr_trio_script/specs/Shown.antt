-- Bytes as a line that can be read.
use Rattle.std.specs.Prelude.{ℕ, Bool, ◌&&◌, ◌==◌, not, nat_le, if◌then◌else◌, List, [], ◌∷◌}
use Rattle.std.specs.List.{flat_map}
use Rattle.hex.specs.Hex.{encode_lower}

-- a space, `~`, or a byte between them, but `\`
abbrev pub is_plain : ℕ → Bool
is_plain b = nat_le 32 b && nat_le b 126 && not (b == 92)

abbrev pub digits_of : ℕ → List ℕ
digits_of b = encode_lower (b ∷ [])

-- itself, or `\x` and two hexadecimal digits
abbrev pub shown_byte : ℕ → List ℕ
shown_byte b = if is_plain b then b ∷ [] else 92 ∷ 120 ∷ digits_of b

abbrev pub escaped : List ℕ → List ℕ
escaped bytes = flat_map shown_byte bytes
