use Rattle.mr_follower.proofs.Followings.{taken}
use Rattle.mr_follower.proofs.laws.stream_is_taken.Goals as goal

pub returns : goal.returns
returns c = taken
