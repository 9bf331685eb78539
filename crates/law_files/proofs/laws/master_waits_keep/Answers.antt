use Rattle.law_files.proofs.Masters.{waits_keep, lacks_keep}
use Rattle.law_files.proofs.laws.master_waits_keep.Goals as goal

pub returns-clause-waits : goal.returns-clause-waits
returns-clause-waits c = waits_keep

pub returns-clause-lacks : goal.returns-clause-lacks
returns-clause-lacks c = lacks_keep
