use Rattle.law_refinement.proofs.Accepting.{accepts, accept_stops}
use Rattle.law_refinement.proofs.laws.accepts_are_rows.Goals as goal

pub returns-clause-accepts : goal.returns-clause-accepts
returns-clause-accepts c = accepts

pub returns-clause-stops : goal.returns-clause-stops
returns-clause-stops c = accept_stops
