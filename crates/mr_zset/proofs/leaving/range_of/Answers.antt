use Rattle.std.proofs.Common.{rules}
use Rattle.mr_zset.proofs.LeavingLemmas.{have_range}
use Rattle.mr_zset.proofs.leaving.range_of.Goals as goal

pub returns-then-first-past : goal.returns-then-first-past
returns-then-first-past c =
    have_range c.in_ok-least.least c.in_ok-least.greatest c.args.gone.now c.args.pairs.now c.count_below-first.result c.past_of-past.result (search rules) c.if-first-past.true c.past_of-past.ensures.within
    c.count_below-first.ensures.place.0 c.past_of-past.ensures.back
