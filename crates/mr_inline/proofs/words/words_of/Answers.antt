use Rattle.std.proofs.Common.{◌∙◌}
use Rattle.mr_inline.proofs.CutSteps.{has_cut_word}
use Rattle.mr_inline.proofs.words.words_of.Goals as goal

pub loop-at-preserved : goal.loop-at-preserved
loop-at-preserved c =
    let none = c.in_default.not-Separator in
    let kind = c.of.ensures in
    has_cut_word c.args.line.now c.loop-at.at c.in_ok-cut.cut.end c.loop-at.words.items c.push.new.self.items c.in_ok-cut.cut.word
    c.loop-at.invariant c.loop-at-test.true (λ e. none (kind ∙ e)) c.in_ok-cut.ensures.word c.in_ok-cut.ensures.borrowed c.in_ok-push.ensures.items
