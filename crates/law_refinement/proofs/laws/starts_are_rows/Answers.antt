use Rattle.law_refinement.proofs.Beginning.{starts, restarts}
use Rattle.law_refinement.proofs.laws.starts_are_rows.Goals as goal

pub returns-clause-starts : goal.returns-clause-starts
returns-clause-starts c = starts

pub returns-clause-restarts : goal.returns-clause-restarts
returns-clause-restarts c = restarts
