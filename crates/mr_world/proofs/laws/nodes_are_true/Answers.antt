use Rattle.mr_world.proofs.Passing.{nodes_are_true}
use Rattle.mr_world.proofs.laws.nodes_are_true.Goals as goal

pub returns : goal.returns
returns c = nodes_are_true
