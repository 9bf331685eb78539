use Rattle.law_protocol.proofs.Refusals.{streams_are_followed}
use Rattle.law_protocol.proofs.laws.streams_are_followed.Goals as goal

pub returns : goal.returns
returns g c = streams_are_followed
