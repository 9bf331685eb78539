use Rattle.law_files.proofs.Filing.{read_whole}
use Rattle.law_files.proofs.laws.files_are_read_whole.Goals as goal

pub returns : goal.returns
returns c = read_whole
