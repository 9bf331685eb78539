use Rattle.std.proofs.Common.{rules, ◌≡◌, ◌∙◌}
use Rattle.std.proofs.lemmas.Slice.Eq.{bytes_eq-Decides}
use Rattle.mr_data.proofs.Leaving.{first_more}
use Rattle.mr_data.proofs.dataset.whole.are_first.Goals as goal

pub loop-word-preserved : goal.loop-word-preserved
loop-word-preserved c =
    let same : c.in-Some.member.now ≡ c.as_slice.result.now = search (rules, bytes_eq-Decides) in
    first_more c.args.words.now _ c.word-item.result _ _ _ _ c.loop-word-test.true c.word-item.is c.in-Some.ensures.steps (same ∙ c.as_slice.ensures) c.loop-word.invariant
