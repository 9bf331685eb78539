-- Lists of keys as sets.
use Rattle.std.specs.Prelude.{ℕ, List, map, Bool}
use Rattle.std.specs.List.{list_any}
use Rattle.std.specs.Ordering.{eq_by_cmp}
use Rattle.std.specs.Borrow.{Bor}
use Rattle.mr_map.specs.Bytes.{Bytes, bytes_cmp}

abbrev pub is_key : Bytes → Bytes → Bool
is_key q k = eq_by_cmp bytes_cmp q k

-- the key is among them
abbrev pub has : List Bytes → Bytes → Bool
has ks q = list_any (is_key q) ks
