use Rattle.mr_cmd_shared.proofs.PlanLemmas.{on_key_plans_if_ok}
use Rattle.mr_cmd_key.specs.Expiring.{expire_answer}
use Rattle.mr_cmd_key.proofs.planning.expire.Goals as goal

pub returns : goal.returns
returns c =
    let k = c.args.key.now in
    on_key_plans_if_ok _ k (expire_answer k c.args.rules.condition c.args.given.now c.args.rules.deadline) _ _ _ _ _ _ c.in_ok-live_entry.ensures.live_entry c.in_ok-live_entry.ensures.expired c.expire.ensures
