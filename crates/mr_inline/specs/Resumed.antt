-- What a reader keeps from one call to the next.
use Rattle.std.specs.Prelude.{◌≡◌, ℕ, ◌+◌, ◌≤◌, List, length, take}
use Rattle.mr_inline.specs.Places.{turn_of, need_of}
use Rattle.mr_inline.specs.declared.place.Turn.TheVariants.{Goes}
use Rattle.mr_inline.specs.declared.progress.LineProgress.{LineProgress}

-- What is known of the front holds of this input: its bytes lead to the place, from which the line can still be ended.
pub record Agrees (limit : ℕ) (progress : LineProgress) (input : List ℕ) : Type 0 where
  pub inside : progress.at ≤ length input
  pub leads : turn_of (take progress.at input) ≡ Goes progress.place
  pub room : progress.at + need_of progress.place ≤ limit

-- Nothing is known: it agrees with every input.
abbrev pub IsFresh : LineProgress → Type 0
IsFresh progress = (limit : ℕ) (input : List ℕ) → Agrees limit progress input
