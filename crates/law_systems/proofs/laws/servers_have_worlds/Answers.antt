use Rattle.law_systems.proofs.Leading.{servers_have_worlds}
use Rattle.law_systems.proofs.laws.servers_have_worlds.Goals as goal

pub returns : goal.returns
returns c = servers_have_worlds
