use Rattle.law_refinement.proofs.Replicas.{idle_steps}
use Rattle.law_refinement.proofs.laws.idle_steps_are_rows.Goals as goal

pub returns : goal.returns
returns c = idle_steps
