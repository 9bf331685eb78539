-- Command texts of few words.
use Rattle.std.specs.Prelude.{ℕ}

-- as many words as an effect has whose spelling has so many and no other number
abbrev pub few : ℕ
few = 5
