use Rattle.law_protocol.proofs.Headline.{invariant_holds}
use Rattle.law_protocol.proofs.laws.invariant_holds.Goals as goal

pub returns : goal.returns
returns g c = invariant_holds g.R.Replicated.laws
