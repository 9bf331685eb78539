-- What links end as, once a reference to one of them has ended.
use Rattle.std.specs.Prelude.{Option}
use Rattle.std.specs.Borrow.{Fml, RattleType, MutBor, Lends, LendsIf}
use Rattle.std.specs.declared.alloc.Allocator.{Ghosts}
use Rattle.std.specs.FinMap.{insert}
use Rattle.mr_links.specs.LinkId.{LinkId}
use Rattle.mr_links.specs.Links.{Links}
use Rattle.mr_links.specs.contracts.links.Links.{the_row}

-- the links with another one under this id
abbrev pub with_link : {T : Type 0} → Links T → LinkId → T → Links T
with_link l id link = record l { open_links = insert l.open_links id link }

module _ (T A : RattleType) (alloc : Ghosts A.Denot) (l : MutBor (Links T.Denot)) where
  -- the id has the last link written through r
  abbrev pub lends_link : LinkId → MutBor T.Denot → Fml
  lends_link id r = Lends (the_row T A alloc) T l r (with_link l.now id)

  -- the same where r is a reference, and at `None` the links stay as they are
  abbrev pub lends_link_if_open : LinkId → Option (MutBor T.Denot) → Fml
  lends_link_if_open id r = LendsIf (the_row T A alloc) T l r (with_link l.now id) l.now
