use Rattle.law_refinement.proofs.Moments.{runs_go_on}
use Rattle.law_refinement.proofs.headline.runs_go_on.Goals as goal

pub returns : goal.returns
returns c = runs_go_on
