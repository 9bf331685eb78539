use Rattle.mr_cmd_shared.proofs.PlanLemmas.{is_plan}
use Rattle.mr_cmd_key.specs.Commands.{command}
use Rattle.mr_cmd_key.proofs.planning.planned.Goals as goal

pub returns : goal.returns
returns c = rw c.into_plan.ensures.reply (is_plan (command c.args.ask.now c.args.given.now) _ _ _ _ _ _ c.new-effects.ensures c.into_plan.ensures.effects c.in_ok-reply.ensures)
