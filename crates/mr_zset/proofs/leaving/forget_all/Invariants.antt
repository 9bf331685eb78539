use Rattle.std.proofs.Common.{◌≡◌, drop}
use Rattle.mr_map.specs.Bytes.{lent}
use Rattle.mr_zset.specs.Leaving.{without_scores, AreStoredBesides}
use Rattle.mr_zset.proofs.leaving.forget_all.Given as goal

abbrev pub invariant-loop-member : goal.invariant-loop-member
invariant-loop-member l = record {
  left : without_scores (lent (drop l.member-index l.members)) l.scores ≡ without_scores (lent l.members) l.fn.scores;
  besides : AreStoredBesides l.gone.items l.scores l.pairs;
}
