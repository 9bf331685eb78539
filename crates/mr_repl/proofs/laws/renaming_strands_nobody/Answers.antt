use Rattle.mr_repl.proofs.Successions.{strands_nobody}
use Rattle.mr_repl.proofs.laws.renaming_strands_nobody.Goals as goal

pub returns : goal.returns
returns c = strands_nobody
