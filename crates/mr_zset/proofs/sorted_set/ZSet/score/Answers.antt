use Rattle.mr_map.proofs.Parted.{none_got}
use Rattle.mr_zset.proofs.sorted_set.ZSet.score.Goals as goal

pub returns-in-None-clause-value : goal.returns-in-None-clause-value
returns-in-None-clause-value c = none_got c.self.inside.ranked c.args.self.now c.self.view_is c.in-None.is c.args.member.now
