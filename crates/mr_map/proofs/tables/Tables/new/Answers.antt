use Rattle.mr_map.proofs.Parted.{joined_empty, parted_empty}
use Rattle.mr_map.proofs.tables.Tables.new.Goals as goal

pub invariant_of-result : goal.invariant_of-result
invariant_of-result g c = rw (c.with_hasher.ensures.empty, c.with_hasher-2.ensures.empty) parted_empty

pub returns : goal.returns
returns g c = rw (c.with_hasher.ensures.empty, c.with_hasher-2.ensures.empty) joined_empty
