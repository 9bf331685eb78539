use Rattle.law_servers.proofs.Keeping.{turns_keep}
use Rattle.law_servers.proofs.laws.turns_keep_files.Goals as goal

pub returns : goal.returns
returns c = turns_keep
