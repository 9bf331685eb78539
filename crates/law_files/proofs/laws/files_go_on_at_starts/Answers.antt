use Rattle.law_files.proofs.Worlds.{starts, restarts, empty_makes, what_loads}
use Rattle.law_files.proofs.laws.files_go_on_at_starts.Goals as goal

pub returns-clause-starts : goal.returns-clause-starts
returns-clause-starts c = starts

pub returns-clause-restarts : goal.returns-clause-restarts
returns-clause-restarts c = restarts

pub returns-clause-empty : goal.returns-clause-empty
returns-clause-empty c = empty_makes

pub returns-clause-loads : goal.returns-clause-loads
returns-clause-loads c = what_loads
