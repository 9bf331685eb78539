use Rattle.law_protocol.proofs.Refusals.{restarts}
use Rattle.law_protocol.proofs.laws.restarts_under_new_ids.Goals as goal

pub returns : goal.returns
returns g c = restarts
