use Rattle.std.proofs.Common.{sym, ap}
use Rattle.std.specs.Prelude.{is_some}
use Rattle.mr_map.proofs.Domains.{put_there}
use Rattle.mr_map.proofs.keyed_map.KeyedMap.get_mut.Goals as goal

pub invariant_of-self-lent : goal.invariant_of-self-lent
invariant_of-self-lent g c w = put_there c.self.inside.order c.self.inside.tables c.args.key.now c.self.invariant w (ap is_some (sym c.in-Some.ensures.value))
