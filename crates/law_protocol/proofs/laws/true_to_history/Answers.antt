use Rattle.law_protocol.proofs.Headline.{true_to_history}
use Rattle.law_protocol.proofs.laws.true_to_history.Goals as goal

pub returns : goal.returns
returns g c = true_to_history g.R.Replicated.laws
