use Rattle.mr_groups.proofs.Cuts.{begins, one_whole_group, open_is_not_bad, bad_for_good}
use Rattle.mr_groups.proofs.laws.answer_is_one.Goals as goal

pub returns-clause-whole : goal.returns-clause-whole
returns-clause-whole c = one_whole_group

pub returns-clause-not_open : goal.returns-clause-not_open
returns-clause-not_open c = λ bytes es n whole o. o.none (begins bytes es n whole)

pub returns-clause-not_bad : goal.returns-clause-not_bad
returns-clause-not_bad c = λ bytes es n whole b. b.none (begins bytes es n whole)

pub returns-clause-open_or_bad : goal.returns-clause-open_or_bad
returns-clause-open_or_bad c = open_is_not_bad

pub returns-clause-for_good : goal.returns-clause-for_good
returns-clause-for_good c = bad_for_good
