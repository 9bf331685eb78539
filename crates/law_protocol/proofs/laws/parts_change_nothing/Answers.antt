use Rattle.law_protocol.proofs.Refusals.{parts_change_nothing}
use Rattle.law_protocol.proofs.laws.parts_change_nothing.Goals as goal

pub returns : goal.returns
returns g c = parts_change_nothing
