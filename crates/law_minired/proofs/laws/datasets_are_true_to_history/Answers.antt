use Rattle.law_protocol.proofs.Headline.{true_to_history, histories_stay}
use Rattle.law_minired.proofs.MiniredLaws.{minired_laws}
use Rattle.law_minired.proofs.laws.datasets_are_true_to_history.Goals as goal

pub returns-clause-history : goal.returns-clause-history
returns-clause-history c = true_to_history minired_laws

pub returns-clause-grows : goal.returns-clause-grows
returns-clause-grows c = histories_stay minired_laws
