use Rattle.mr_trio.proofs.Played.{played}
use Rattle.mr_trio.proofs.starting.play_on.Goals as goal

pub returns : goal.returns
returns g c = played _ _ _ _ _ _ _ c.play.ensures
