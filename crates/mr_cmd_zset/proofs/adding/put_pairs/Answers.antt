use Rattle.std.proofs.Common.{◌≤◌, ◌∙◌, arith}
use Rattle.mr_cmd_zset.proofs.Adds.{putting_starts, few_put, at_most_one}
use Rattle.mr_cmd_zset.proofs.adding.put_pairs.Goals as goal

pub loop-score-init : goal.loop-score-init
loop-score-init c = putting_starts c.args.rules.condition c.args.rules.comparison c.args.rules.reply _ _ _ _ c.new-scores.ensures (c.into_iter-score-iterator.ensures.into_iter_gives ∙ c.iter-score-items.ensures.all)

pub overflow_add-counted : goal.overflow_add-counted
overflow_add-counted c =
    let few = few_put c.args.rules.condition c.args.rules.comparison c.args.rules.reply _ _ _ _ _ c.loop-score.invariant c.requires in
    let one : c.from-counted.result ≤ 1 = rw c.from-counted.ensures (at_most_one c.in_ok-counts.counts) in
    omega (arith, one, few)

pub returns-clause-small : goal.returns-clause-small
returns-clause-small c = few_put c.args.rules.condition c.args.rules.comparison c.args.rules.reply _ _ _ _ _ c.loop-score.invariant c.requires
