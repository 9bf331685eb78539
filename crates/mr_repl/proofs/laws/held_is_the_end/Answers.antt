use Rattle.std.proofs.Common.{◌++◌}
use Rattle.mr_repl.proofs.Windows.{last_of-IsEndOf}
use Rattle.mr_repl.proofs.laws.held_is_the_end.Goals as goal

pub returns : goal.returns
returns c w piece = last_of-IsEndOf w.capacity (w.held ++ piece)
