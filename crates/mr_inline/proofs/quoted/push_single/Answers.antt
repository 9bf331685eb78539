use Rattle.mr_inline.proofs.CutSteps.{unquotes_single}
use Rattle.mr_inline.proofs.quoted.push_single.Goals as goal

pub returns-then-line-at-eq39 : goal.returns-then-line-at-eq39
returns-then-line-at-eq39 c = unquotes_single c.args.line.now c.args.start c.loop-at.at c.args.word.now.items c.loop-at.word.items c.loop-at.invariant c.loop-at-test.true c.if-line-at-eq39.true
