use Rattle.law_refinement.proofs.Masters.{master_lacks}
use Rattle.law_refinement.proofs.laws.lacks_are_unseen.Goals as goal

pub returns : goal.returns
returns c = master_lacks
