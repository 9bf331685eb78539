use Rattle.law_files.proofs.Worlds.{master_steps, master_waits, master_lacks}
use Rattle.law_files.proofs.laws.files_go_on_at_masters.Goals as goal

pub returns-clause-steps : goal.returns-clause-steps
returns-clause-steps c = master_steps

pub returns-clause-waits : goal.returns-clause-waits
returns-clause-waits c = master_waits

pub returns-clause-lacks : goal.returns-clause-lacks
returns-clause-lacks c = master_lacks
