use Rattle.mr_repl.proofs.Windows.{after_bytes-after_bytes}
use Rattle.mr_repl.proofs.laws.cuts_do_not_matter.Goals as goal

pub returns : goal.returns
returns c = after_bytes-after_bytes
