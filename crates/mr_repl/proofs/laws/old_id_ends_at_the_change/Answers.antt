use Rattle.mr_repl.proofs.Successions.{old_id_ends}
use Rattle.mr_repl.proofs.laws.old_id_ends_at_the_change.Goals as goal

pub returns : goal.returns
returns c = old_id_ends
