-- Keys of few bytes, padded with zeros.
use Rattle.std.specs.Prelude.{◌≡◌, ℕ, suc, zero, ◌-◌, ◌≤◌, nat_le, cond, Option, Some, None, List, [], ◌∷◌, ◌++◌, take, drop, length}

-- how many bytes a short key has at most: with their number they are three words of eight
abbrev pub room : ℕ
room = 23

-- n bytes from the i-th on
abbrev pub part : ℕ → ℕ → List ℕ → List ℕ
part i n bytes = take n (drop i bytes)

abbrev pub zeros : ℕ → List ℕ
zeros zero = []
zeros (suc n) = 0 ∷ zeros n

-- the key, where it is short
abbrev pub if_short : List ℕ → Option (List ℕ)
if_short key = cond (nat_le (length key) room) (Some key) None

-- As many bytes, of which the first are a key and the others zeros.
pub record IsPadded (bytes : List ℕ) (len : ℕ) : Type 0 where
  pub fits : len ≤ room
  pub whole : length (take len bytes) ≡ len
  pub padded : bytes ≡ take len bytes ++ zeros (room - len)
