use Rattle.law_files.proofs.Worlds.{ticks}
use Rattle.law_files.proofs.laws.files_go_on_at_ticks.Goals as goal

pub returns : goal.returns
returns c = ticks
