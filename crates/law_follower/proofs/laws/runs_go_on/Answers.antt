use Rattle.law_follower.proofs.Following.{go_on}
use Rattle.law_follower.proofs.laws.runs_go_on.Goals as goal

pub returns : goal.returns
returns c = go_on
