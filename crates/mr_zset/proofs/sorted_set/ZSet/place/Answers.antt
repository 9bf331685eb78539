use Rattle.std.proofs.Common.{ap}
use Rattle.std.specs.Prelude.{count_by}
use Rattle.mr_map.proofs.Parted.{none_listed}
use Rattle.mr_zset.specs.Pairs.{pair_lt}
use Rattle.mr_zset.proofs.sorted_set.ZSet.place.Goals as goal

pub returns-in-None-clause-count : goal.returns-in-None-clause-count
returns-in-None-clause-count c = ap (count_by (λ p. pair_lt p (c.args.member.now, c.args.score))) (none_listed c.self.inside.ranked c.args.self.now c.self.view_is c.in-None.is)
