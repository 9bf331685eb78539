use Rattle.law_refinement.proofs.Replicas.{stopped_steps}
use Rattle.law_refinement.proofs.laws.stops_are_rows.Goals as goal

pub returns : goal.returns
returns c = stopped_steps
