use Rattle.law_systems_example.proofs.Joining.{then}
use Rattle.law_systems_example.proofs.laws.steps_join.Goals as goal

pub returns : goal.returns
returns c = then
