use Rattle.mr_world.proofs.Passing.{replicas_are_level}
use Rattle.mr_world.proofs.laws.replicas_are_level.Goals as goal

pub returns : goal.returns
returns c = replicas_are_level
