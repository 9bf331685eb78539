use Rattle.law_minired.proofs.Opened.{multi_begins, only_multi, they_end, only_they, others_go_on}
use Rattle.law_minired.proofs.laws.transactions_begin_and_end.Goals as goal

pub returns-clause-begins : goal.returns-clause-begins
returns-clause-begins c = multi_begins

pub returns-clause-multi : goal.returns-clause-multi
returns-clause-multi c = only_multi

pub returns-clause-ends : goal.returns-clause-ends
returns-clause-ends c = they_end

pub returns-clause-they : goal.returns-clause-they
returns-clause-they c = only_they

pub returns-clause-others : goal.returns-clause-others
returns-clause-others c = others_go_on
