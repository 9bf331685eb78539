use Rattle.law_refinement.proofs.Masters.{master_waits}
use Rattle.law_refinement.proofs.laws.waits_are_rows.Goals as goal

pub returns : goal.returns
returns c = master_waits
