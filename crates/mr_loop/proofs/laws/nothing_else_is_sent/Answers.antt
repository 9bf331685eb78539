use Rattle.mr_loop.proofs.Wired.{sends_nothing_else}
use Rattle.mr_loop.proofs.laws.nothing_else_is_sent.Goals as goal

pub returns : goal.returns
returns c = sends_nothing_else
