use Rattle.mr_resp.proofs.OneAnswer as answers
use Rattle.mr_resp.proofs.laws.words_fit.Goals as goal

pub returns-clause-each : goal.returns-clause-each
returns-clause-each c = answers.words_fit

pub returns-clause-count : goal.returns-clause-count
returns-clause-count c = answers.words_few
