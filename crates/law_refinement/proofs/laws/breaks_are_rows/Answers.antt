use Rattle.law_refinement.proofs.Linking.{server_breaks, master_breaks}
use Rattle.law_refinement.proofs.laws.breaks_are_rows.Goals as goal

pub returns-clause-served : goal.returns-clause-served
returns-clause-served c = server_breaks

pub returns-clause-master : goal.returns-clause-master
returns-clause-master c = master_breaks
