use Rattle.law_protocol.proofs.Headline.{histories_stay}
use Rattle.law_protocol.proofs.laws.histories_stay.Goals as goal

pub returns : goal.returns
returns g c = histories_stay g.R.Replicated.laws
