use Rattle.std.proofs.Common.{rules, ◌∙◌, ap, w64, FitsSigned}
use Rattle.std.proofs.lemmas.Int.{to_z-of_z}
use Rattle.mr_cmd_zset.specs.Scores.{number}
use Rattle.mr_cmd_zset.proofs.Adds.{one_made}
use Rattle.mr_cmd_zset.proofs.adding.add_one.Goals as goal

pub returns : goal.returns
returns c =
    let fits : FitsSigned w64 c.args.pair.score = search rules in
    one_made c.args.rules.condition c.args.rules.comparison c.args.rules.reply c.args.key.now c.args.pair.member.now c.args.pair.score _ c.args.set.now _ c.counts.result _ _ c.score-before.result c.score_after-after.result (to_z-of_z w64 c.args.pair.score fits) c.score-before.ensures.value c.score_after-after.ensures c.counts.ensures (c.count.ensures ∙ ap number c.from.ensures) c.in_ok-push_changed_alone.ensures
