use Rattle.mr_cmd_key.proofs.PlanLemmas.{one_counted}
use Rattle.mr_cmd_key.proofs.planning.exists_one.Goals as goal

pub returns : goal.returns
returns c = one_counted _ _ _ c.in_ok-live_entry.live_entry c.is_some.result c.from.result _ _ _ c.in_ok-live_entry.ensures.live_entry c.is_some.ensures c.from.ensures c.count.ensures c.in_ok-live_entry.ensures.expired
