use Rattle.law_follower.proofs.Following.{follows}
use Rattle.law_follower.proofs.laws.follows_its_stream.Goals as goal

pub returns : goal.returns
returns c = follows
