-- What three nodes do, whichever they are.
use Rattle.std.specs.Prelude.{ℕ, List}
use Rattle.mr_trio_script.specs.declared.ending.Ending.{Ending}
use Rattle.mr_trio_script.specs.declared.place.Place.{Place}

-- how three nodes come to answer, and what they are: as they were before, which of them, the words, and as they are after that
pub record Conduct (N : Type 0) : Type 1 where
  pub answers : N → Place → (words : List (List ℕ)) → (reply : List ℕ) → N → Type 0  -- that node was asked these words, and this is its reply
  pub delays : N → Place → (words : List (List ℕ)) → N → Type 0  -- that node was asked these words, and had no reply in time
  pub ends_as : N → Place → Ending → Type 0  -- that node is this
