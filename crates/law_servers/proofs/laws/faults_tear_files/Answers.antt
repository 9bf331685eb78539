use Rattle.law_servers.proofs.Keeping.{faults_tear}
use Rattle.law_servers.proofs.laws.faults_tear_files.Goals as goal

pub returns : goal.returns
returns c = faults_tear
