use Rattle.law_protocol.proofs.Refusals.{dialled_links_are_empty}
use Rattle.law_protocol.proofs.laws.dialled_links_are_empty.Goals as goal

pub returns : goal.returns
returns g c = dialled_links_are_empty
