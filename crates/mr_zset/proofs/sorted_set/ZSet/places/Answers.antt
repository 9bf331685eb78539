use Rattle.std.proofs.Common.{sym, ap}
use Rattle.std.specs.Prelude.{filter}
use Rattle.mr_zset.specs.Bounds.{is_within}
use Rattle.mr_zset.proofs.NoMember.{no_pairs}
use Rattle.mr_zset.proofs.sorted_set.ZSet.places.Goals as goal

pub returns-in-None-clause-range : goal.returns-in-None-clause-range
returns-in-None-clause-range c = sym (ap (filter (λ p. is_within c.args.from c.args.to p.1)) (no_pairs c.self.inside.ranked c.args.self.now c.self.view_is c.in-None.is))
