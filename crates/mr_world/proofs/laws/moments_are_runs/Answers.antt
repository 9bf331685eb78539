use Rattle.mr_world.proofs.Taken.{moments_are_runs}
use Rattle.mr_world.proofs.laws.moments_are_runs.Goals as goal

pub returns : goal.returns
returns c = moments_are_runs
