use Rattle.law_systems.proofs.Founding.{servers_begin}
use Rattle.law_systems.proofs.laws.servers_begin.Goals as goal

pub returns : goal.returns
returns c = servers_begin
