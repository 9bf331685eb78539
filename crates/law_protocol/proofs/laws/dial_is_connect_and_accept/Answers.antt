use Rattle.law_protocol.proofs.TwoEvents.{dial_is_connect_and_accept}
use Rattle.law_protocol.proofs.laws.dial_is_connect_and_accept.Goals as goal

pub returns : goal.returns
returns g c = dial_is_connect_and_accept
