use Rattle.law_minired.proofs.Opened.{writes_wait, writes_mark}
use Rattle.law_minired.proofs.laws.writes_wait_at_masters.Goals as goal

pub returns-clause-masters : goal.returns-clause-masters
returns-clause-masters c = writes_wait

pub returns-clause-replicas : goal.returns-clause-replicas
returns-clause-replicas c = writes_mark
