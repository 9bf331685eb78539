-- What a row and rows end as, once a reference to a link in them has ended. No public clause cites this module.
use Rattle.std.specs.Borrow.{Fml, RattleType, MutBor, Lends}
use Rattle.std.specs.declared.alloc.Allocator.{Ghosts}
use Rattle.std.specs.FinMap.{FinMap, insert}
use Rattle.mr_links.specs.LinkId.{LinkId, id_cmp}
use Rattle.mr_links.specs.contracts.rows.Row.{the_row as row_of}
use Rattle.mr_links.specs.contracts.rows.Rows.{the_row}
use Rattle.mr_links.specs.declared.rows.Row.{Row}

-- the row has the last link written through r
abbrev pub lends_link_of : (T : RattleType) → MutBor (Row T.Denot) → MutBor T.Denot → Fml
lends_link_of T row r = Lends (row_of T) T row r (λ w. record row.now { link = w })

module _ (T A : RattleType) (alloc : Ghosts A.Denot) (m : MutBor (FinMap id_cmp T.Denot)) where
  -- the id has the last link written through r
  abbrev pub lends_row : LinkId → MutBor T.Denot → Fml
  lends_row id r = Lends (the_row T A alloc) T m r (insert m.now id)
