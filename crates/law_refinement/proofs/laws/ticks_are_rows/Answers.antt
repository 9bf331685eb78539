use Rattle.law_refinement.proofs.Times.{ticks}
use Rattle.law_refinement.proofs.laws.ticks_are_rows.Goals as goal

pub returns : goal.returns
returns c = ticks
