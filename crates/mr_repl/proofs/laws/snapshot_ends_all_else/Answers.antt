use Rattle.mr_repl.proofs.Successions.{snapshot_ends}
use Rattle.mr_repl.proofs.laws.snapshot_ends_all_else.Goals as goal

pub returns : goal.returns
returns c = snapshot_ends
