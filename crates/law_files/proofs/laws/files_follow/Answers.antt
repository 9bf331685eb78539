use Rattle.law_files.proofs.Filing.{files_follow}
use Rattle.law_files.proofs.laws.files_follow.Goals as goal

pub returns : goal.returns
returns c = files_follow
