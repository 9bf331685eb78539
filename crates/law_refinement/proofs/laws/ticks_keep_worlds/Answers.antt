use Rattle.law_refinement.proofs.Kept.{ticks_keep}
use Rattle.law_refinement.proofs.laws.ticks_keep_worlds.Goals as goal

pub returns : goal.returns
returns c = ticks_keep
