use Rattle.law_follower.proofs.Following.{heartbeats}
use Rattle.law_follower.proofs.laws.heartbeats_are_counted.Goals as goal

pub returns : goal.returns
returns c = heartbeats
