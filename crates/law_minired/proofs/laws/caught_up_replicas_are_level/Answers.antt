use Rattle.law_protocol.proofs.Headline.{caught_up_is_level}
use Rattle.law_minired.proofs.MiniredLaws.{minired_laws}
use Rattle.law_minired.proofs.laws.caught_up_replicas_are_level.Goals as goal

pub returns : goal.returns
returns c = caught_up_is_level minired_laws
