use Rattle.std.proofs.Common.{refl}
use Rattle.mr_keyspace.proofs.Index.{IsIndex-value}
use Rattle.mr_keyspace.proofs.keyspace.Keyspace.value_mut.Goals as goal

pub invariant_of-self-lent : goal.invariant_of-self-lent
invariant_of-self-lent c w =
    let e = c.in-Some.entry.now in
    IsIndex-value c.self.inside.by_key c.args.key.now e (record { value = w; deadline = e.deadline }) c.self.inside.timed_keys c.self.invariant c.in-Some.ensures.value refl
