use Rattle.mr_world.proofs.Talked.{links_are_in_order, turns_use_texts}
use Rattle.mr_world.proofs.laws.links_are_in_order.Goals as goal

pub returns-clause-order : goal.returns-clause-order
returns-clause-order c = links_are_in_order

pub returns-clause-texts : goal.returns-clause-texts
returns-clause-texts c = turns_use_texts
