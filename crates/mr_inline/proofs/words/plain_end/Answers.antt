use Rattle.mr_inline.proofs.CutSteps.{plain_more, goes_on}
use Rattle.mr_inline.proofs.words.plain_end.Goals as goal

pub loop-at-preserved : goal.loop-at-preserved
loop-at-preserved c = plain_more c.args.line.now c.args.start c.loop-at.at c.of.result c.loop-at.invariant c.loop-at-test.true c.of.ensures (goes_on c.of.result c.in-LineFeed.is)
