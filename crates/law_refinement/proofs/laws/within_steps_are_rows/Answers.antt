use Rattle.law_refinement.proofs.Within.{within_steps}
use Rattle.law_refinement.proofs.laws.within_steps_are_rows.Goals as goal

pub returns : goal.returns
returns c = within_steps
