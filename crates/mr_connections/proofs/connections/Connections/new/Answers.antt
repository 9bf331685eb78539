use Rattle.mr_connections.proofs.Indexed.{indexed-empty}
use Rattle.mr_connections.proofs.Listed.{listed-empty}
use Rattle.mr_connections.proofs.connections.Connections.new.Goals as goal

pub invariant_of-result : goal.invariant_of-result
invariant_of-result c = (indexed-empty c.«new».result c.new-2.result c.«new».ensures, listed-empty c.«new».result c.new-5.result.items _ c.«new».ensures c.new-5.ensures.items)
