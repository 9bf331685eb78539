use Rattle.law_files.proofs.Filing.{kept_stay}
use Rattle.law_files.proofs.laws.kept_files_stay.Goals as goal

pub returns : goal.returns
returns c = kept_stay
