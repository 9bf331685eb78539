use Rattle.std.proofs.Common.{◌≡◌, drop}
use Rattle.mr_map.specs.Bytes.{lent}
use Rattle.mr_zset.specs.Leaving.{without_scores}
use Rattle.mr_zset.proofs.by_score.ByScore.take_each.Given as goal

-- once the members that are left are out, all are
abbrev pub invariant-loop-member : goal.invariant-loop-member
invariant-loop-member l = without_scores (lent (drop l.member-index l.members)) l.self ≡ without_scores (lent l.members) l.fn.self
