use Rattle.std.proofs.Common.{ap}
use Rattle.std.specs.Prelude.{slice_get}
use Rattle.mr_zset.proofs.NoMember.{no_pairs}
use Rattle.mr_zset.proofs.sorted_set.ZSet.pop_min.Goals as goal

pub returns-clause-popped : goal.returns-clause-popped
returns-clause-popped c = ap (λ l. slice_get l 0) (no_pairs c.self.inside.ranked c.args.self.now c.self.view_is c.in_default.is)
