use Rattle.mr_trio.proofs.Played.{not_started}
use Rattle.mr_trio.proofs.starting.trio.Goals as goal

pub returns-in-Err : goal.returns-in-Err
returns-in-Err g c = not_started _ _ c.in-Err.fault c.in-Err.ensures
