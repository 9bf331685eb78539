use Rattle.std.proofs.Common.{rules, ◌∙◌, ap, sym, w64, FitsSigned}
use Rattle.std.proofs.lemmas.Int.{to_z-of_z}
use Rattle.mr_cmd_zset.specs.Scores.{score_reply}
use Rattle.mr_cmd_zset.proofs.Adds.{sum_made}
use Rattle.mr_cmd_zset.proofs.adding.zincrby.Goals as goal

pub returns : goal.returns
returns c =
    let z = c.in-Some.score in
    let fits : FitsSigned w64 z = search rules in
    let same = to_z-of_z w64 z fits in
    sum_made c.args.key.now c.args.member.now c.args.by _ z c.args.set.now _ _ _ c.score-before.result (to_z-of_z w64 c.args.by c.ranges.by) c.score-before.ensures.value (sym c.increased.ensures ∙ c.in-Some.is) (c.in_ok-reply.ensures ∙ ap score_reply same) (simp to_z-of_z at c.in_ok-push_changed_alone.ensures)
