use Rattle.law_protocol.proofs.Refusals.{answers}
use Rattle.law_protocol.proofs.laws.answers_are_of_one_moment.Goals as goal

pub returns : goal.returns
returns g c = answers
