use Rattle.mr_loop.proofs.Halting.{knows_shutdown}
use Rattle.mr_loop.proofs.laws.shutdown_is_known.Goals as goal

pub returns : goal.returns
returns c = knows_shutdown
