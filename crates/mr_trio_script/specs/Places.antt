-- The numbers of the three nodes.
use Rattle.std.specs.Prelude.{ℕ}
use Rattle.mr_trio_script.specs.declared.place.Place.{Place}
use Rattle.mr_trio_script.specs.declared.place.Place.TheVariants.{First, Second, Third}

-- the digit of a node's number
abbrev pub digit_of : Place → ℕ
digit_of First = 49
digit_of Second = 50
digit_of Third = 51
