use Rattle.mr_ask.proofs.FaultLemmas.{first_is_answered}
use Rattle.mr_ask.proofs.LeastLemmas.{answered_is_first}
use Rattle.mr_ask.proofs.laws.first_fault_is_answered.Goals as goal

pub returns-clause-answered : goal.returns-clause-answered
returns-clause-answered c = first_is_answered

pub returns-clause-first : goal.returns-clause-first
returns-clause-first c = answered_is_first
