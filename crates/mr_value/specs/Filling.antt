-- A map that gets pairs one after another.
use Rattle.std.specs.Prelude.{List, [], ◌∷◌}
use Rattle.std.specs.FinMap.{insert}
use Rattle.mr_map.specs.Bytes.{Bytes, ByteMap}

abbrev pub with_pairs : List (Bytes × Bytes) → ByteMap Bytes → ByteMap Bytes
with_pairs [] m = m
with_pairs (p ∷ ps) m = with_pairs ps (insert m p.0 p.1)
