use Rattle.mr_cmd_hash.proofs.Laws.{hash_faithful}
use Rattle.mr_cmd_hash.proofs.planning.plan.Goals as goal

pub returns-clause-faithful : goal.returns-clause-faithful
returns-clause-faithful c = λ fit. (hash_faithful c.args.ask.now c.args.given.now c.args.held.now c.planned.ensures.kept fit).faithful

pub returns-clause-texts : goal.returns-clause-texts
returns-clause-texts c = λ fit. (hash_faithful c.args.ask.now c.args.given.now c.args.held.now c.planned.ensures.kept fit).texts
