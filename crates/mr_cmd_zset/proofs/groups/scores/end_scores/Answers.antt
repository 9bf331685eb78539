use Rattle.std.proofs.Common.{sym, ◌∙◌}
use Rattle.mr_cmd_shared.proofs.GroupLemmas.{last_put}
use Rattle.mr_cmd_zset.proofs.groups.scores.end_scores.Goals as goal

pub returns : goal.returns
returns c = last_put _ c.flush.result _ _ _ (sym c.is_empty.ensures ∙ c.if-is_empty.false) c.args.group.room c.flush.ensures.effects
