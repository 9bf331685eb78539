use Rattle.mr_zset.specs.Stored.{stored}
use Rattle.mr_zset.proofs.StoredLemmas.{ranged}
use Rattle.mr_zset.proofs.stored.places_of.Goals as goal

pub returns-clause-range : goal.returns-clause-range
returns-clause-range c = ranged stored c.args.from c.args.to c.args.pairs.now c.count_below-first.result c.count_below-past.result c.max.result c.count_below-first.ensures.place c.count_below-past.ensures.place c.max.ensures
