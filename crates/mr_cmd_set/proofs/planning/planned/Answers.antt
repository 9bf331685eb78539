use Rattle.mr_cmd_shared.proofs.PlanLemmas.{is_plan}
use Rattle.mr_cmd_set.specs.SetCommands.{command}
use Rattle.mr_cmd_set.proofs.planning.planned.Goals as goal

pub returns-clause-plan : goal.returns-clause-plan
returns-clause-plan c = rw c.into_plan.ensures.reply (is_plan (command c.args.ask.now c.args.given.word) _ _ _ _ _ _ c.new-effects.ensures c.into_plan.ensures.effects c.in_ok-reply.ensures.reply)
