use Rattle.law_protocol.proofs.Refusals.{masters_take_new_ids}
use Rattle.law_protocol.proofs.laws.masters_take_new_ids.Goals as goal

pub returns : goal.returns
returns g c = masters_take_new_ids
