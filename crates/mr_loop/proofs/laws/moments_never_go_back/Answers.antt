use Rattle.mr_loop.proofs.Supplying.{turns_go_forward}
use Rattle.mr_loop.proofs.laws.moments_never_go_back.Goals as goal

pub returns : goal.returns
returns c = turns_go_forward
