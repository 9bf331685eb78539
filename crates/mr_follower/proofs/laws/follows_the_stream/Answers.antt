use Rattle.mr_follower.proofs.Followings.{follows}
use Rattle.mr_follower.proofs.laws.follows_the_stream.Goals as goal

pub returns : goal.returns
returns c = follows
