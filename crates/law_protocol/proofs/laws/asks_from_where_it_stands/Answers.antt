use Rattle.law_protocol.proofs.Refusals.{asks_from_where_it_stands}
use Rattle.law_protocol.proofs.laws.asks_from_where_it_stands.Goals as goal

pub returns : goal.returns
returns g c = asks_from_where_it_stands
