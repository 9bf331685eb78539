use Rattle.law_refinement.proofs.Times.{tick_stops}
use Rattle.law_refinement.proofs.laws.tick_stops_are_rows.Goals as goal

pub returns : goal.returns
returns c = tick_stops
