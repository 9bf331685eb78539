use Rattle.law_refinement.proofs.Moments.{moments_are_known}
use Rattle.law_refinement.proofs.headline.moments_are_known.Goals as goal

pub returns : goal.returns
returns c = moments_are_known
