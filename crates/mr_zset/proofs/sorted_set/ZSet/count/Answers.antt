use Rattle.mr_zset.specs.Pairs.{range_of}
use Rattle.mr_zset.proofs.StoredChanges.{range_len}
use Rattle.mr_zset.proofs.sorted_set.ZSet.count.Goals as goal

pub returns-clause-count : goal.returns-clause-count
returns-clause-count c = range_len c.args.self.now (range_of c.args.from c.args.to c.args.self.now) c.places-first.result.0 c.places-first.result.1 c.places-first.ensures.ordered c.places-first.ensures.within c.places-first.ensures.range
