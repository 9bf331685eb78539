-- What a keyspace ends as, once a reference to one of its values has ended.
use Rattle.std.specs.Prelude.{ℕ, List, Option}
use Rattle.std.specs.Borrow.{Fml, MutBor, LendsIf}
use Rattle.std.specs.FinMap.{get, insert}
use Rattle.mr_keyspace.specs.Dataset.{Dataset}
use Rattle.mr_keyspace.specs.Steps.{deadline_of}
use Rattle.mr_keyspace.specs.declared.value.Value.{Value}
use Rattle.mr_keyspace.specs.contracts.keyspace.Keyspace as keyspace
use Rattle.mr_keyspace.specs.contracts.value.Value as held

-- the key has the last value written through r, and its deadline; at `None` nothing changes
abbrev pub lends_value : MutBor Dataset → List ℕ → Option (MutBor Value) → Fml
lends_value m k r = LendsIf keyspace.the_row held.the_row m r (λ v. insert m.now k (record { value = v; deadline = deadline_of (get m.now k) })) m.now
