use Rattle.std.proofs.Common.{List, subst, sym, true}
use Rattle.mr_keyspace.specs.TimedKeys.{Updates}
use Rattle.mr_keyspace.specs.declared.timed_key.TimedKey.{TimedKey}
use Rattle.mr_keyspace.proofs.TimedLists.{comes_in}
use Rattle.mr_keyspace.proofs.deadlines.Deadlines.insert.Goals as goal

pub returns-clause-ok : goal.returns-clause-ok
returns-clause-ok c =
    let s = c.self.inside.in_order in
    subst (λ (z : List TimedKey). Updates c.args.timed true z c.insert.new.self) c.self.view_is (subst (λ (z : List TimedKey). Updates c.args.timed true s z) (sym c.in_ok-insert.ensures.ok) (comes_in c.args.timed s))
