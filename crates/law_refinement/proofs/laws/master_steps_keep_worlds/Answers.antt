use Rattle.law_refinement.proofs.Following.{masters_keep}
use Rattle.law_refinement.proofs.laws.master_steps_keep_worlds.Goals as goal

pub returns : goal.returns
returns c = masters_keep
