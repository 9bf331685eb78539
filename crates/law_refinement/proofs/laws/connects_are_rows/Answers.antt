use Rattle.law_refinement.proofs.Accepting.{connects, connect_stops}
use Rattle.law_refinement.proofs.laws.connects_are_rows.Goals as goal

pub returns-clause-connects : goal.returns-clause-connects
returns-clause-connects c = connects

pub returns-clause-stops : goal.returns-clause-stops
returns-clause-stops c = connect_stops
