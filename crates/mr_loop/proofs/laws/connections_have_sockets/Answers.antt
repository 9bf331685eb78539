use Rattle.mr_loop.proofs.Wired.{have_sockets_first, have_sockets_always}
use Rattle.mr_loop.proofs.laws.connections_have_sockets.Goals as goal

pub returns-clause-first : goal.returns-clause-first
returns-clause-first c = have_sockets_first

pub returns-clause-always : goal.returns-clause-always
returns-clause-always c = have_sockets_always
