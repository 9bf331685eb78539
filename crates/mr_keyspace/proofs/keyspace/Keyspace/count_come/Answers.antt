use Rattle.std.proofs.Common.{◌∙◌, ap, ℤ, w64}
use Rattle.std.proofs.lemmas.Int.{to_z-of_z}
use Rattle.mr_keyspace.specs.TimedKeys.{count_come, timed_keys}
use Rattle.mr_keyspace.proofs.Coming.{in_order_of_deadline}
use Rattle.mr_keyspace.proofs.keyspace.Keyspace.count_come.Goals as goal

pub returns-clause-count : goal.returns-clause-count
returns-clause-count c =
    c.count_come.ensures.count
    ∙ ap (count_come _) (in_order_of_deadline c.self.inside.by_key c.self.inside.timed_keys c.self.invariant c.count_come.ensures.ordered ∙ ap timed_keys c.self.view_is)
    ∙ ap (λ (n : ℤ). count_come n (timed_keys c.args.self.now)) (to_z-of_z w64 c.args.now c.ranges.now)
