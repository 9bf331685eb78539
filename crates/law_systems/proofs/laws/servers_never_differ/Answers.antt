use Rattle.law_systems.proofs.Leading.{servers_never_differ}
use Rattle.law_systems.proofs.laws.servers_never_differ.Goals as goal

pub returns : goal.returns
returns c = servers_never_differ
