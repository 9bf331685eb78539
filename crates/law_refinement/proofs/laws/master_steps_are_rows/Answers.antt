use Rattle.law_refinement.proofs.Masters.{master_steps}
use Rattle.law_refinement.proofs.laws.master_steps_are_rows.Goals as goal

pub returns : goal.returns
returns c = master_steps
