use Rattle.std.proofs.Common.{◌∙◌, ap, map}
use Rattle.std.specs.Prelude.{slice_range}
use Rattle.mr_zset.specs.Pairs.{lent_pair}
use Rattle.mr_zset.proofs.NoMember.{no_pairs, no_part}
use Rattle.mr_zset.proofs.sorted_set.ZSet.between.Goals as goal

pub returns-in-None : goal.returns-in-None
returns-in-None c = ap (map lent_pair) c.«new».ensures.items ∙ no_part c.args.first c.args.past ∙ ap (λ l. slice_range l c.args.first c.args.past) (no_pairs c.self.inside.ranked c.args.self.now c.self.view_is c.in-None.is)
