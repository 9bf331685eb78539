use Rattle.law_files.proofs.Worlds.{files_are_true}
use Rattle.law_files.proofs.laws.files_are_true.Goals as goal

pub returns : goal.returns
returns c = files_are_true
