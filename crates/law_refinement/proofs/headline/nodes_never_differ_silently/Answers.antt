use Rattle.law_refinement.proofs.Moments.{no_silent_difference}
use Rattle.law_refinement.proofs.headline.nodes_never_differ_silently.Goals as goal

pub returns : goal.returns
returns c = no_silent_difference
