use Rattle.law_follower.proofs.Following.{exactly_the_whole}
use Rattle.law_follower.proofs.laws.applies_exactly_the_whole.Goals as goal

pub returns : goal.returns
returns c = exactly_the_whole
