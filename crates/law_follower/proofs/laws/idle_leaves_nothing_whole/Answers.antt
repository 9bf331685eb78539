use Rattle.law_follower.proofs.Following.{idle_whole}
use Rattle.law_follower.proofs.laws.idle_leaves_nothing_whole.Goals as goal

pub returns : goal.returns
returns c = idle_whole
