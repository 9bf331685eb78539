-- What a table and its parts end as, once a reference to a value in them has ended. No public clause cites this module.
use Rattle.std.specs.Prelude.{Option}
use Rattle.std.specs.Borrow.{Fml, RattleType, MutBor, Lends, LendsIf}
use Rattle.std.specs.FinMap.{FinMap, insert}
use Rattle.std.specs.Option.Follows.{option_follows_value}
use Rattle.mr_links.specs.LinkId.{id_cmp}
use Rattle.mr_links.specs.declared.link_id.LinkId.{LinkId}
use Rattle.mr_connections.specs.contracts.table.Entry.{the_row as row_of}
use Rattle.mr_connections.specs.contracts.table.Table.{the_row}
use Rattle.mr_connections.specs.declared.table.Entry.{Entry}

-- the entry has the last value written through r
abbrev pub lends_value_of : (T : RattleType) → MutBor (Entry T.Denot) → MutBor T.Denot → Fml
lends_value_of T entry r = Lends (row_of T) T entry r (λ w. record entry.now { value = w })

-- the place has the last entry written through r
abbrev pub lends_entry : (T : RattleType) → MutBor (Option (Entry T.Denot)) → MutBor (Entry T.Denot) → Fml
lends_entry T place r = option_follows_value (row_of T) place r

module _ (T : RattleType) (m : MutBor (FinMap id_cmp T.Denot)) where
  -- the name has the last value written through r
  abbrev pub lends_value : LinkId → MutBor T.Denot → Fml
  lends_value id r = Lends (the_row T) T m r (insert m.now id)

  -- the same where r is a reference, and at `None` the table stays as it is
  abbrev pub lends_value_if_there : LinkId → Option (MutBor T.Denot) → Fml
  lends_value_if_there id r = LendsIf (the_row T) T m r (insert m.now id) m.now
