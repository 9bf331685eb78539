use Rattle.std.proofs.Common.{List, false, subst}
use Rattle.mr_keyspace.specs.TimedKeys.{Updates}
use Rattle.mr_keyspace.specs.declared.timed_key.TimedKey.{TimedKey}
use Rattle.mr_keyspace.proofs.TimedLists.{goes_from}
use Rattle.mr_keyspace.proofs.deadlines.Deadlines.remove.Goals as goal

pub returns : goal.returns
returns c = subst (λ (z : List TimedKey). Updates c.args.timed.now false z c.take.new.self) c.self.view_is (goes_from c.args.timed.now c.self.inside.in_order c.take.new.self c.take.result c.take.ensures)
