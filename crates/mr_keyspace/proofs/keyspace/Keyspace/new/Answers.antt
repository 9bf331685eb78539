use Rattle.mr_keyspace.proofs.Index.{IsIndex-empty}
use Rattle.mr_keyspace.proofs.keyspace.Keyspace.new.Goals as goal

pub invariant_of-result : goal.invariant_of-result
invariant_of-result c = IsIndex-empty c.«new».result c.new-2.result c.«new».ensures c.new-2.ensures
