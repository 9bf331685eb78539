use Rattle.mr_cmd_shared.proofs.OnceLemmas.{expired_in_order, expired_once}
use Rattle.mr_cmd_shared.proofs.choosing.expired_keys_stand_once.Goals as goal

pub returns-clause-in_order : goal.returns-clause-in_order
returns-clause-in_order c = expired_in_order

pub returns-clause-once : goal.returns-clause-once
returns-clause-once c = expired_once
