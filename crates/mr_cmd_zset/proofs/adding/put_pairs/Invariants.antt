use Rattle.mr_cmd_zset.proofs.Adds.{IsPutting}
use Rattle.mr_cmd_zset.proofs.adding.put_pairs.Given as goal

abbrev pub invariant-loop-score : goal.invariant-loop-score
invariant-loop-score l = IsPutting l.fn.rules.condition l.fn.rules.comparison l.fn.rules.reply l.fn.pairs l.fn.set l.scores l.counted l.score-iterator
