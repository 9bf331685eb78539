use Rattle.std.proofs.Common.{◌++◌, ◌*◌, List, ℕ, ◌∙◌, ap, arith}
use Rattle.std.specs.Prelude.{codes}
use Rattle.std.specs.List.{flat_map}
use Rattle.mr_resp.specs.Spelling.{bulk}
use Rattle.mr_effect.specs.Spelling.{score_words}
use Rattle.mr_effect.proofs.Appending.{whole, length-scores}
use Rattle.mr_effect.proofs.encoding.push_scores.Goals as goal

pub returns-clause-ok : goal.returns-clause-ok
returns-clause-ok c =
    let words = flat_map score_words c.args.scores.now in
    c.in_ok-push_each_score.ensures.ok
    ∙ ap (λ (t : List ℕ). t ++ flat_map bulk words) c.in_ok-push_head.ensures.ok
    ∙ whole c.args.out.now.items (codes "ZADD") c.args.key.now words (2 * c.len.result) (omega (arith, c.len.ensures.len, length-scores c.args.scores.now))
