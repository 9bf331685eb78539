use Rattle.law_files.proofs.Filing.{grow_on}
use Rattle.law_files.proofs.laws.files_grow_on.Goals as goal

pub returns : goal.returns
returns c = grow_on
