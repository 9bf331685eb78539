use Rattle.mr_cmd_zset.proofs.RangeLemmas.{turned_range}
use Rattle.mr_cmd_zset.proofs.ranges.places_in.Goals as goal

pub returns-in-Descending-clause-same : goal.returns-in-Descending-clause-same
returns-in-Descending-clause-same c pairs long = turned_range c.args.order pairs c.args.count c.args.start c.args.end c.in-Descending.is long c.requires.ordered c.requires.within
