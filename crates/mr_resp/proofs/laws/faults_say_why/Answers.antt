use Rattle.mr_resp.proofs.FaultReasons.{says_why}
use Rattle.mr_resp.proofs.laws.faults_say_why.Goals as goal

pub returns : goal.returns
returns c = says_why
