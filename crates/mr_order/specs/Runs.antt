-- Items that stand next to each other in a longer list.
use Rattle.std.specs.Prelude.{◌≡◌, ℕ, ◌+◌, ◌-◌, ◌<◌, ◌≤◌, List, length, slice_index_or}

-- a run stands in a list from a place on
pub record IsIn {A : Type 0} (items run : List A) (start : ℕ) : Type 0 where
  pub same : (k : ℕ) (d : A) → k < length run → slice_index_or items (start + k) d ≡ slice_index_or run k d
  pub fits : start + length run ≤ length items

-- two places in a list, a run from the first one on and a run in front of the second one
pub record AreRuns {A : Type 0} (items : List A) (from to : ℕ) (head tail : List A) : Type 0 where
  pub ordered : from ≤ to
  pub within : to ≤ length items
  pub front : IsIn items head from
  pub fits : length tail ≤ to
  pub back : IsIn items tail (to - length tail)
