use Rattle.std.proofs.Common.{arith}
use Rattle.mr_zset.specs.Stored.{scores_of}
use Rattle.mr_zset.proofs.StoredChanges.{stored_len}
use Rattle.mr_zset.proofs.by_score.ByScore.between.Goals as goal

pub pairs_between-requires-clause-within : goal.pairs_between-requires-clause-within
pairs_between-requires-clause-within c = omega (arith, c.requires.within, stored_len (scores_of c.self.inside.pairs) c.args.self.now c.self.inside.pairs c.self.invariant c.self.view_is)
