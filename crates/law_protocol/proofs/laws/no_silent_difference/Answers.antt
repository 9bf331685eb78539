use Rattle.law_protocol.proofs.Headline.{no_silent_difference}
use Rattle.law_protocol.proofs.laws.no_silent_difference.Goals as goal

pub returns : goal.returns
returns g c = no_silent_difference g.R.Replicated.laws
