use Rattle.law_refinement.proofs.Moments.{histories_stay}
use Rattle.law_refinement.proofs.headline.histories_stay.Goals as goal

pub returns : goal.returns
returns c = histories_stay
