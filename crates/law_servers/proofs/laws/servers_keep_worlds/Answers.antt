use Rattle.law_servers.proofs.Moving.{servers_keep_worlds}
use Rattle.law_servers.proofs.laws.servers_keep_worlds.Goals as goal

pub returns : goal.returns
returns c = servers_keep_worlds
