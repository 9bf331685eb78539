use Rattle.law_files.proofs.Requests.{no_beats, no_beats_waited}
use Rattle.law_files.proofs.laws.requests_have_no_heartbeats.Goals as goal

pub returns-clause-alone : goal.returns-clause-alone
returns-clause-alone c = no_beats

pub returns-clause-waited : goal.returns-clause-waited
returns-clause-waited c = no_beats_waited
