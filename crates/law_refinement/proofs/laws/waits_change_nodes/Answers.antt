use Rattle.law_refinement.proofs.Waiting.{lacks_alone, waits_alone}
use Rattle.law_refinement.proofs.laws.waits_change_nodes.Goals as goal

pub returns-clause-waits : goal.returns-clause-waits
returns-clause-waits c = waits_alone

pub returns-clause-lacks : goal.returns-clause-lacks
returns-clause-lacks c = lacks_alone
