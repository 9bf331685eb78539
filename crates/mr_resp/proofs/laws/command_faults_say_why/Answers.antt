use Rattle.mr_resp.proofs.CommandReasons.{command_says_why}
use Rattle.mr_resp.proofs.laws.command_faults_say_why.Goals as goal

pub returns : goal.returns
returns c = command_says_why
