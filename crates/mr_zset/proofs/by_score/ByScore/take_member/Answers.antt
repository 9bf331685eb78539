use Rattle.std.proofs.Common.{◌∙◌, sym}
use Rattle.mr_zset.proofs.StoredChanges.{remove_absent}
use Rattle.mr_zset.proofs.by_score.ByScore.take_member.Goals as goal

pub returns-in_default : goal.returns-in_default
returns-in_default c = sym (remove_absent c.args.self.now c.args.member.now (sym c.score.ensures.value ∙ c.in_default.is))
