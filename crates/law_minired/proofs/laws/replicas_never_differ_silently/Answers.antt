use Rattle.law_protocol.proofs.Headline.{no_silent_difference}
use Rattle.law_minired.proofs.MiniredLaws.{minired_laws}
use Rattle.law_minired.proofs.laws.replicas_never_differ_silently.Goals as goal

pub returns : goal.returns
returns c = no_silent_difference minired_laws
