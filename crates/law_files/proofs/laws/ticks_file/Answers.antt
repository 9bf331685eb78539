use Rattle.law_files.proofs.Times.{ticks_file}
use Rattle.law_files.proofs.laws.ticks_file.Goals as goal

pub returns : goal.returns
returns c = ticks_file
