use Rattle.mr_map.proofs.Parted.{none_counted}
use Rattle.mr_zset.proofs.sorted_set.ZSet.len.Goals as goal

pub returns-in-None-clause-len : goal.returns-in-None-clause-len
returns-in-None-clause-len c = none_counted c.self.inside.ranked c.args.self.now c.self.view_is c.in-None.is
