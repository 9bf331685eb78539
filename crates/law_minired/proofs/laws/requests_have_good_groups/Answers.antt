use Rattle.law_minired.proofs.Planned.{good_groups}
use Rattle.law_minired.proofs.laws.requests_have_good_groups.Goals as goal

pub returns : goal.returns
returns c = good_groups
