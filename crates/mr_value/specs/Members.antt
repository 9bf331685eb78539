-- Byte strings in a list, and the set of them.
use Rattle.std.specs.Prelude.{ℕ, List, [], ◌∷◌}
use Rattle.std.specs.FinMap.{empty, insert}
use Rattle.std.specs.FinSet.{FinSet}
use Rattle.mr_map.specs.Bytes.{bytes_cmp}

-- the set of the members that a list has
abbrev pub set_of : List (List ℕ) → FinSet bytes_cmp
set_of [] = empty
set_of (member ∷ members) = insert (set_of members) member tt
