use Rattle.law_refinement.proofs.Starting.{starts_are_runs}
use Rattle.law_refinement.proofs.headline.starts_are_runs.Goals as goal

pub returns : goal.returns
returns c = starts_are_runs
