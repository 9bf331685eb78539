use Rattle.std.proofs.Common.{◌≡◌, ℤ, sym, ◌∙◌, subst, w64}
use Rattle.std.proofs.lemmas.Int.{to_z-of_z}
use Rattle.mr_cmd_zset.specs.Scores.{over}
use Rattle.mr_cmd_zset.specs.Adding.{with_pair}
use Rattle.mr_cmd_zset.proofs.Adds.{pair_put, pair_left}
use Rattle.mr_cmd_zset.proofs.adding.put_pair.Goals as goal
use Rattle.mr_cmd_zset.proofs.adding.put_pair.Goals.{then-sets+in_ok-insert, else-sets}

pub returns-clause-put : goal.returns-clause-put
returns-clause-put c =
    let only = c.args.rules.condition in
    let than = c.args.rules.comparison in
    let same = to_z-of_z w64 c.args.score c.ranges.score in
    let before = over c.args.scores.now c.args.set.now in
    elim c.if-sets.branch [
      | then-sets+in_ok-insert w ↦ rw w.scores-is (subst (λ (z : ℤ). over w.insert.new.self c.args.set.now ≡ with_pair only than (z, c.args.member.now) before) same (pair_put only than _ _ _ _ _ _ c.score_so_far-before.ensures (sym c.sets.ensures ∙ w.if-sets.true) w.in_ok-insert.ensures.ok))
      | else-sets w ↦ rw w.scores-is (subst (λ (z : ℤ). before ≡ with_pair only than (z, c.args.member.now) before) same (pair_left only than _ _ _ _ _ c.score_so_far-before.ensures (sym c.sets.ensures ∙ w.if-sets.false)))
    ]
