use Rattle.law_refinement.proofs.Replicas.{replica_steps}
use Rattle.law_refinement.proofs.laws.replica_steps_are_rows.Goals as goal

pub returns : goal.returns
returns c = replica_steps
