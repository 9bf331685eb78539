use Rattle.mr_cmd_list.proofs.Laws.{lists_faithful}
use Rattle.mr_cmd_list.proofs.planning.plan.Goals as goal

pub returns-clause-faithful : goal.returns-clause-faithful
returns-clause-faithful c = λ fit. (lists_faithful c.args.ask.now c.args.given.now c.args.held.now c.planned.ensures.kept c.planned.ensures.numbers fit).faithful

pub returns-clause-texts : goal.returns-clause-texts
returns-clause-texts c = λ fit. (lists_faithful c.args.ask.now c.args.given.now c.args.held.now c.planned.ensures.kept c.planned.ensures.numbers fit).texts
