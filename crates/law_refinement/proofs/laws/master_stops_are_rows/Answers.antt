use Rattle.law_refinement.proofs.Masters.{master_stops}
use Rattle.law_refinement.proofs.laws.master_stops_are_rows.Goals as goal

pub returns : goal.returns
returns c = master_stops
