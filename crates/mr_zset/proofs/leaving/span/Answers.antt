use Rattle.std.proofs.lemmas.List.{get_or_default}
use Rattle.mr_zset.proofs.LeavingLemmas.{between_more}
use Rattle.mr_zset.proofs.leaving.span.Goals as goal

pub loop-pair-preserved : goal.loop-pair-preserved
loop-pair-preserved c =
    between_more c.loop-pair.least c.loop-pair.greatest c.lesser-least.result c.greater-greatest.result _ c.args.pairs.now c.loop-pair.pair-index c.loop-pair.invariant c.loop-pair-test.true
    (get_or_default c.args.pairs.now c.loop-pair.pair-index _ _ c.loop-pair-test.true) c.lesser-least.ensures.one c.lesser-least.ensures.other c.greater-greatest.ensures.one c.greater-greatest.ensures.other
