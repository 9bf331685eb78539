use Rattle.mr_world.proofs.Passing.{nodes_never_differ}
use Rattle.mr_world.proofs.laws.nodes_never_differ.Goals as goal

pub returns : goal.returns
returns c = nodes_never_differ
