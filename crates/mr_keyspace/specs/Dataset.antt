-- The dataset: a finite map from keys to entries.
use Rattle.std.specs.Prelude.{Option, Some, None}
use Rattle.std.specs.FinMap.{FinMap, insert, remove}
use Rattle.mr_map.specs.Bytes.{bytes_cmp, Bytes}
use Rattle.mr_keyspace.specs.declared.value.Entry.{Entry}

abbrev pub Dataset : Type 0
Dataset = FinMap bytes_cmp Entry

-- the key with this entry, or without one
abbrev pub put_at : Dataset → Bytes → Option Entry → Dataset
put_at m k None = remove m k
put_at m k (Some e) = insert m k e
