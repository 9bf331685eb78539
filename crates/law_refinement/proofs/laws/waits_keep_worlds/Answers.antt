use Rattle.law_refinement.proofs.Waiting.{lacks_keep, waits_keep}
use Rattle.law_refinement.proofs.laws.waits_keep_worlds.Goals as goal

pub returns-clause-waits : goal.returns-clause-waits
returns-clause-waits c = waits_keep

pub returns-clause-lacks : goal.returns-clause-lacks
returns-clause-lacks c = lacks_keep
