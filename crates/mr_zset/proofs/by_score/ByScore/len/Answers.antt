use Rattle.std.proofs.Common.{◌∙◌}
use Rattle.mr_zset.specs.Stored.{scores_of}
use Rattle.mr_zset.proofs.StoredChanges.{stored_len}
use Rattle.mr_zset.proofs.by_score.ByScore.len.Goals as goal

pub returns-clause-len : goal.returns-clause-len
returns-clause-len c = c.len.ensures.len ∙ stored_len (scores_of c.self.inside.pairs) c.args.self.now c.self.inside.pairs c.self.invariant c.self.view_is
