-- The scores of a sorted set's members.
use Rattle.std.specs.Prelude.{ℕ, ℤ, List, IsTrue, IfSome}
use Rattle.std.specs.FinMap.{get}
use Rattle.mr_map.specs.Bytes.{ByteMap}
use Rattle.mr_score.specs.Score.{is_score}

-- each member's score is one
abbrev pub HasScores : ByteMap ℤ → Type 0
HasScores m = (k : List ℕ) → IfSome (get m k) (λ z. IsTrue (is_score z))
