use Rattle.mr_cmd_string.proofs.Laws.{texts_faithful}
use Rattle.mr_cmd_string.proofs.planning.plan.Goals as goal

pub returns-clause-faithful : goal.returns-clause-faithful
returns-clause-faithful c = λ fit timed. (texts_faithful c.args.ask.now c.args.given.now c.args.held.now fit c.numbers_are_limited.ensures.moment timed c.numbers_are_limited.ensures.limit c.numbers_are_limited.ensures.number).faithful

pub returns-clause-texts : goal.returns-clause-texts
returns-clause-texts c = λ fit timed. (texts_faithful c.args.ask.now c.args.given.now c.args.held.now fit c.numbers_are_limited.ensures.moment timed c.numbers_are_limited.ensures.limit c.numbers_are_limited.ensures.number).texts
