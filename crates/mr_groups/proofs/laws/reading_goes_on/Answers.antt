use Rattle.mr_groups.proofs.Resuming.{reads_any, reads_on}
use Rattle.mr_groups.proofs.laws.reading_goes_on.Goals as goal

pub returns-clause-on : goal.returns-clause-on
returns-clause-on c = reads_on

pub returns-clause-any : goal.returns-clause-any
returns-clause-any c = reads_any
