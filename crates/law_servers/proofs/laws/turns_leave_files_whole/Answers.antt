use Rattle.law_servers.proofs.Keeping.{turns_leave_whole}
use Rattle.law_servers.proofs.laws.turns_leave_files_whole.Goals as goal

pub returns : goal.returns
returns c = turns_leave_whole
