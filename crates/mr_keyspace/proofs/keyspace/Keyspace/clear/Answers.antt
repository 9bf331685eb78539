use Rattle.mr_keyspace.proofs.Index.{IsIndex-empty}
use Rattle.mr_keyspace.proofs.keyspace.Keyspace.clear.Goals as goal

pub invariant_of-self : goal.invariant_of-self
invariant_of-self c = IsIndex-empty c.«new».result c.clear.new.self c.«new».ensures c.clear.ensures
