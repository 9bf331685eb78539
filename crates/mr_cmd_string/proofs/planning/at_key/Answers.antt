use Rattle.mr_cmd_shared.proofs.PlanLemmas.{on_key_plans_if_ok}
use Rattle.mr_cmd_string.specs.OneKey.{answer_of}
use Rattle.mr_cmd_string.proofs.planning.at_key.Goals as goal

pub returns : goal.returns
returns c = on_key_plans_if_ok _ c.args.key.now (answer_of c.args.ask.now c.args.given.now) _ _ _ _ _ _ c.in_ok-live_entry.ensures.live_entry c.in_ok-live_entry.ensures.expired c.answer_of.ensures
