-- Places as a map from names to values. No public clause cites this module.
use Rattle.std.specs.Prelude.{List, map, Option, Some, None}
use Rattle.std.specs.FinMap.{FinMap}
use Rattle.mr_links.specs.LinkId.{id_cmp}
use Rattle.mr_links.specs.Rows.{links_of}
use Rattle.mr_links.specs.declared.rows.Row.{Row}
use Rattle.mr_connections.specs.declared.table.Entry.{Entry}

module _ {T : Type 0} where
  -- an entry as a row of links
  abbrev pub row_of : Option (Entry T) → Option (Row T)
  row_of None = None
  row_of (Some entry) = Some (record { generation = entry.generation; link = entry.value })

  -- the values of these places by their names
  abbrev pub table_of : List (Option (Entry T)) → FinMap id_cmp T
  table_of places = links_of (map row_of places)
