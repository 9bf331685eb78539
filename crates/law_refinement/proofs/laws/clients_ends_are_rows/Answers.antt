use Rattle.law_refinement.proofs.ClientEnds.{commands, client_feeds, client_breaks}
use Rattle.law_refinement.proofs.laws.clients_ends_are_rows.Goals as goal

pub returns-clause-sends : goal.returns-clause-sends
returns-clause-sends c = commands

pub returns-clause-takes : goal.returns-clause-takes
returns-clause-takes c = client_feeds

pub returns-clause-leaves : goal.returns-clause-leaves
returns-clause-leaves c = client_breaks
