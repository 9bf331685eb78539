use Rattle.law_refinement.proofs.Linking.{opens, open_stops}
use Rattle.law_refinement.proofs.laws.opens_are_rows.Goals as goal

pub returns-clause-opens : goal.returns-clause-opens
returns-clause-opens c = opens

pub returns-clause-stops : goal.returns-clause-stops
returns-clause-stops c = open_stops
