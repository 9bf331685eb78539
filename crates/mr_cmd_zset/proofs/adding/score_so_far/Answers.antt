use Rattle.std.proofs.Common.{rules, ◌≡◌, ◌∙◌, ap, Some, None, FitsSigned, w64}
use Rattle.std.proofs.lemmas.Int.{to_z-of_z}
use Rattle.std.specs.FinMap.{get}
use Rattle.mr_cmd_zset.proofs.Adds.{so_far_set, so_far_held}
use Rattle.mr_cmd_zset.proofs.adding.score_so_far.Goals as goal

pub returns-in-Some : goal.returns-in-Some
returns-in-Some c =
    let some : get c.args.scores.now c.args.member.now ≡ Some c.in-Some.score = search rules in
    let fits : FitsSigned w64 c.in-Some.score = search rules in
    ap Some (to_z-of_z w64 c.in-Some.score fits) ∙ so_far_set _ _ _ _ some

pub returns-in-None : goal.returns-in-None
returns-in-None c =
    let none : get c.args.scores.now c.args.member.now ≡ None = search rules in
    c.score.ensures.value ∙ so_far_held _ _ _ none
