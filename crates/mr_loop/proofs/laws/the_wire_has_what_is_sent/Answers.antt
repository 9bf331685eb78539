use Rattle.mr_loop.proofs.Wired.{wire_has_what_is_sent}
use Rattle.mr_loop.proofs.laws.the_wire_has_what_is_sent.Goals as goal

pub returns : goal.returns
returns c = wire_has_what_is_sent
