use Rattle.law_servers.proofs.Moving.{servers_never_differ}
use Rattle.law_servers.proofs.laws.servers_never_differ.Goals as goal

pub returns : goal.returns
returns c = servers_never_differ
