use Rattle.mr_trio.proofs.Ends.{if_none, if_taken}
use Rattle.mr_trio.proofs.Told.{if_told}
use Rattle.mr_trio.proofs.three.Three.turn.Goals as goal

-- taking a reply changes no node
pub returns-clause-level : goal.returns-clause-level
returns-clause-level c = if_told c.take_reply.result (c.all_are_level.ensures c.if-not-all_are_level.false)

pub returns-clause-taken : goal.returns-clause-taken
returns-clause-taken c = if_taken c.take_reply.result _ _ _ c.in-Ok.ensures.moves c.take_reply.ensures.taken

pub returns-clause-none : goal.returns-clause-none
returns-clause-none c = if_none c.take_reply.result _ _ _ c.in-Ok.ensures.moves c.take_reply.ensures.none
