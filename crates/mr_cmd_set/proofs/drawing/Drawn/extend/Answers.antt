use Rattle.mr_cmd_set.specs.Grouping.{lent}
use Rattle.mr_cmd_set.proofs.Draws.{taken_next, taken_none}
use Rattle.mr_cmd_set.proofs.drawing.Drawn.extend.Goals as goal
use Rattle.mr_cmd_set.proofs.drawing.Drawn.extend.Goals.{in-Some+in_ok-push, in_default}

pub loop-preserved : goal.loop-preserved
loop-preserved c = elim c.match-next.branch [
  | in-Some+in_ok-push w ↦ rw w.self-is (taken_next _ _ _ _ _ _ _ _ c.loop-test.true w.in-Some.ensures.steps w.in_ok-push.ensures.items c.loop.invariant)
  | in_default w ↦ rw w.self-is (taken_none (lent c.loop.self.items.items) _ _ _ c.args.count c.loop.counter w.in_default.ensures.steps c.loop.invariant)
]
