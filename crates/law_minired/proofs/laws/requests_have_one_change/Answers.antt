use Rattle.law_minired.proofs.Planned.{one_change}
use Rattle.law_minired.proofs.laws.requests_have_one_change.Goals as goal

pub returns : goal.returns
returns c = one_change
