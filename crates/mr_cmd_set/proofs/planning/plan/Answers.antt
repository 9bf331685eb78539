use Rattle.mr_cmd_set.proofs.CommandLaws.{sets_faithful}
use Rattle.mr_cmd_set.proofs.planning.plan.Goals as goal

pub returns-clause-faithful : goal.returns-clause-faithful
returns-clause-faithful c = λ fit. (sets_faithful c.args.ask.now c.args.given.word c.args.given.now c.args.held.now c.planned.ensures.rests fit).faithful

pub returns-clause-texts : goal.returns-clause-texts
returns-clause-texts c = λ fit. (sets_faithful c.args.ask.now c.args.given.word c.args.given.now c.args.held.now c.planned.ensures.rests fit).texts
