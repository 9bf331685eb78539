use Rattle.std.proofs.Common.{arith}
use Rattle.mr_zset.specs.Stored.{scores_of}
use Rattle.mr_zset.proofs.StoredChanges.{stored_len}
use Rattle.mr_zset.proofs.by_score.ByScore.places.Goals as goal

pub returns-clause-within : goal.returns-clause-within
returns-clause-within c = omega (arith, c.places_of.ensures.within, stored_len (scores_of c.self.inside.pairs) c.args.self.now c.self.inside.pairs c.self.invariant c.self.view_is)
