use Rattle.std.proofs.Common.{◌∙◌}
use Rattle.mr_map.proofs.Parted.{none_listed}
use Rattle.mr_zset.proofs.sorted_set.ZSet.iter.Goals as goal

pub returns-in-None : goal.returns-in-None
returns-in-None c = c.«new».ensures ∙ none_listed c.self.inside.ranked c.args.self.now c.self.view_is c.in-None.is
