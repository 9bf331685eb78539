use Rattle.mr_zset_options.proofs.OrderLemmas.{add_in_any_order}
use Rattle.mr_zset_options.proofs.RangeOrderLemmas.{range_in_any_order}
use Rattle.mr_zset_options.proofs.laws.options_stand_in_any_order.Goals as goal

pub returns-clause-add : goal.returns-clause-add
returns-clause-add c = add_in_any_order

pub returns-clause-range : goal.returns-clause-range
returns-clause-range c = range_in_any_order
