use Rattle.std.proofs.Common.{subst, sym}
use Rattle.mr_zset.specs.Score.{HasScores}
use Rattle.mr_zset.proofs.PairLemmas.{HasScores-remove}
use Rattle.mr_zset.proofs.sorted_set.ZSet.pop_max.Goals as goal

pub invariant_of-self : goal.invariant_of-self
invariant_of-self c = subst HasScores (sym c.remove.ensures.removed) (HasScores-remove c.self.inside.scores c.as_slice.result.now c.self.invariant)
