use Rattle.std.proofs.Common.{◌∙◌, ap, map}
use Rattle.mr_keyspace.specs.TimedKeys.{timed_keys, dated}
use Rattle.mr_keyspace.proofs.Coming.{in_order_of_deadline}
use Rattle.mr_keyspace.proofs.keyspace.Keyspace.timed_keys.Goals as goal

pub returns : goal.returns
returns c = ap (map dated) c.iter.ensures.all ∙ in_order_of_deadline c.self.inside.by_key c.self.inside.timed_keys c.self.invariant c.iter.ensures.ordered ∙ ap timed_keys c.self.view_is
