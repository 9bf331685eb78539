use Rattle.law_follower.proofs.Following.{no_step_leaves}
use Rattle.law_follower.proofs.laws.no_step_leaves.Goals as goal

pub returns : goal.returns
returns c = no_step_leaves
