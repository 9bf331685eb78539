use Rattle.law_refinement.proofs.Roles.{client_steps}
use Rattle.law_refinement.proofs.laws.client_steps_are_rows.Goals as goal

pub returns : goal.returns
returns c = client_steps
