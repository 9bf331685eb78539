use Rattle.law_files.proofs.Worlds.{files_load, nothing_has_files, stay_folded}
use Rattle.law_files.proofs.laws.files_stay_folded.Goals as goal

pub returns-clause-load : goal.returns-clause-load
returns-clause-load c = files_load

pub returns-clause-begins : goal.returns-clause-begins
returns-clause-begins c = nothing_has_files

pub returns-clause-stay : goal.returns-clause-stay
returns-clause-stay c = stay_folded
