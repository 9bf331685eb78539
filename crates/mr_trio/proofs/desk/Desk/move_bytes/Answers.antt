use Rattle.mr_trio.proofs.Ends.{both_ways}
use Rattle.mr_trio.proofs.desk.Desk.move_bytes.Goals as goal

pub returns-in-Ok-hear-clause-moves : goal.returns-in-Ok-hear-clause-moves
returns-in-Ok-hear-clause-moves c = both_ways _ _ _ _ _ _ _ _ c.in-Ok.ensures.sent c.in-Ok-hear.ensures.heard
