use Rattle.mr_cmd_shared.proofs.PlanLemmas.{on_key_plans_if_ok}
use Rattle.mr_cmd_key.specs.Expiring.{persist_answer}
use Rattle.mr_cmd_key.proofs.planning.persist.Goals as goal

pub returns : goal.returns
returns c = on_key_plans_if_ok _ c.args.key.now (persist_answer c.args.key.now) _ _ _ _ _ _ c.in_ok-live_entry.ensures.live_entry c.in_ok-live_entry.ensures.expired c.persist.ensures
