use Rattle.law_refinement.proofs.Level.{caught_up_is_level}
use Rattle.law_refinement.proofs.headline.caught_up_replicas_are_level.Goals as goal

pub returns : goal.returns
returns c = caught_up_is_level
