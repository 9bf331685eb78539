use Rattle.mr_cmd_zset.proofs.CommandLaws.{zset_faithful}
use Rattle.mr_cmd_zset.proofs.planning.plan.Goals as goal

pub returns-clause-faithful : goal.returns-clause-faithful
returns-clause-faithful c = λ fit. (zset_faithful c.args.ask.now c.args.given.now c.args.held.now c.planned.ensures.kept c.scores_are_limited.ensures fit).faithful

pub returns-clause-texts : goal.returns-clause-texts
returns-clause-texts c = λ fit. (zset_faithful c.args.ask.now c.args.given.now c.args.held.now c.planned.ensures.kept c.scores_are_limited.ensures fit).texts
