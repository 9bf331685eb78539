use Rattle.law_files.proofs.Masters.{master_files}
use Rattle.law_files.proofs.laws.master_steps_file.Goals as goal

pub returns : goal.returns
returns c = master_files
