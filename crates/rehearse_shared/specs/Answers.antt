-- How answers are written.
use Rattle.std.specs.Prelude.{ℕ, List, [], ◌∷◌}
use Rattle.hex.specs.Hex.{encode_lower}

-- bytes as hexadecimal digits, or a `-` where there are none
abbrev pub digits_or_none : List ℕ → List ℕ
digits_or_none [] = 45 ∷ []
digits_or_none (b ∷ bytes) = encode_lower (b ∷ bytes)
