use Rattle.law_follower.proofs.Others.{others_rest}
use Rattle.law_follower.proofs.laws.other_calls_rest.Goals as goal

pub returns : goal.returns
returns c = others_rest
