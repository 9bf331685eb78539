use Rattle.std.proofs.Common.{ap}
use Rattle.std.specs.Prelude.{slice_get}
use Rattle.mr_zset.proofs.NoMember.{no_pairs}
use Rattle.mr_zset.proofs.sorted_set.ZSet.nth.Goals as goal

pub returns-in-None : goal.returns-in-None
returns-in-None c = ap (λ l. slice_get l c.args.place) (no_pairs c.self.inside.ranked c.args.self.now c.self.view_is c.in-None.is)
