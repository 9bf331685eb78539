use Rattle.mr_resp.specs.Request.{IsText}
use Rattle.mr_resp.proofs.OneFault.{doomed_no_more}
use Rattle.mr_resp.proofs.OneAnswer.{text_wants_no_more, full_input}
use Rattle.mr_resp.proofs.laws.more_is_wanted.Goals as goal

pub returns-clause-no_text : goal.returns-clause-no_text
returns-clause-no_text c = text_wants_no_more

pub returns-clause-not_doomed : goal.returns-clause-not_doomed
returns-clause-not_doomed c = λ limits. doomed_no_more (IsText limits)

pub returns-clause-not_full : goal.returns-clause-not_full
returns-clause-not_full c = full_input
