use Rattle.law_refinement.proofs.Masters.{master_spends}
use Rattle.law_refinement.proofs.laws.spends_are_rows.Goals as goal

pub returns : goal.returns
returns c = master_spends
