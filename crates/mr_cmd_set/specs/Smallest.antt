-- The smallest of several sets.
use Rattle.std.specs.Prelude.{ℕ, ◌<◌, ◌≤◌, List, slice_index_or}
use Rattle.std.specs.Borrow.{Bor}
use Rattle.std.specs.FinMap.{len}
use Rattle.mr_cmd_set.specs.Members.{Members}

-- none of the first n sets has fewer members than the first of all
abbrev pub IsSmallestFirst : ℕ → List (Bor Members) → Type 0
IsSmallestFirst n ss = (k : ℕ) (d : Bor Members) → k < n → len (slice_index_or ss 0 d).now ≤ len (slice_index_or ss k d).now
