use Rattle.law_minired.proofs.Opened.{quit_is_heard, all_else}
use Rattle.law_minired.proofs.laws.quit_is_heard.Goals as goal

pub returns-clause-heard : goal.returns-clause-heard
returns-clause-heard c = quit_is_heard

pub returns-clause-others : goal.returns-clause-others
returns-clause-others c = all_else
