use Rattle.mr_cmd_key.proofs.Laws.{keys_faithful}
use Rattle.mr_cmd_key.proofs.planning.plan.Goals as goal

pub returns-clause-faithful : goal.returns-clause-faithful
returns-clause-faithful c = λ fit. (keys_faithful c.args.ask.now c.args.given.now c.args.held.now fit c.deadline_can_be_named.ensures).faithful

pub returns-clause-texts : goal.returns-clause-texts
returns-clause-texts c = λ fit. (keys_faithful c.args.ask.now c.args.given.now c.args.held.now fit c.deadline_can_be_named.ensures).texts
