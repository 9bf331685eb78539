use Rattle.law_protocol.proofs.Headline.{caught_up_is_level}
use Rattle.law_protocol.proofs.laws.caught_up_is_level.Goals as goal

pub returns : goal.returns
returns g c = caught_up_is_level g.R.Replicated.laws
