use Rattle.law_servers.proofs.Keeping.{kept_whole, whole_kept}
use Rattle.law_servers.proofs.laws.whole_files_are_kept.Goals as goal

pub returns-clause-kept : goal.returns-clause-kept
returns-clause-kept c = whole_kept

pub returns-clause-whole : goal.returns-clause-whole
returns-clause-whole c = kept_whole
