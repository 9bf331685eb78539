use Rattle.law_follower.proofs.Following.{applies_first}
use Rattle.law_follower.proofs.laws.applies_what_comes_first.Goals as goal

pub returns : goal.returns
returns c = applies_first
