use Rattle.std.proofs.Common.{rules, ◌≡◌, true}
use Rattle.std.specs.Ordering.{is_gt}
use Rattle.mr_zset.specs.Pairs.{pair_cmp, lent_pair}
use Rattle.mr_zset.proofs.LeavingLemmas.{not_less, not_more_itself}
use Rattle.mr_zset.proofs.leaving.lesser.Goals as goal

pub returns-then-is_gt-clause-one : goal.returns-then-is_gt-clause-one
returns-then-is_gt-clause-one c =
    let more : is_gt (pair_cmp (lent_pair c.args.one) (lent_pair c.args.other)) ≡ true = search rules in
    not_less (lent_pair c.args.one) (lent_pair c.args.other) more

pub returns-then-is_gt-clause-other : goal.returns-then-is_gt-clause-other
returns-then-is_gt-clause-other c = not_more_itself (lent_pair c.args.other)

pub returns-else-is_gt-clause-one : goal.returns-else-is_gt-clause-one
returns-else-is_gt-clause-one c = not_more_itself (lent_pair c.args.one)
