use Rattle.mr_inline.proofs.CutSteps.{unquotes_double}
use Rattle.mr_inline.proofs.quoted.push_double.Goals as goal

pub returns-then-line-at-eq34 : goal.returns-then-line-at-eq34
returns-then-line-at-eq34 c = unquotes_double c.args.line.now c.args.start c.loop-at.at c.args.word.now.items c.loop-at.word.items c.loop-at.invariant c.loop-at-test.true c.if-line-at-eq34.true
