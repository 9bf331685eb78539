use Rattle.law_servers.proofs.Calling.{faults_call, turns_call}
use Rattle.law_servers.proofs.laws.turns_call.Goals as goal

pub returns-clause-turns : goal.returns-clause-turns
returns-clause-turns c = turns_call

pub returns-clause-faults : goal.returns-clause-faults
returns-clause-faults c = faults_call
