use Rattle.std.proofs.Common.{rules, arith}
use Rattle.mr_cmd_list.specs.Pops.{taken_items}
use Rattle.mr_cmd_list.proofs.PopLemmas.{left_more, right_more, reply_more}
use Rattle.mr_cmd_list.proofs.pops.taken.Goals as goal
use Rattle.mr_cmd_list.proofs.pops.taken.Goals.{in-Left, in-Right}

pub loop-i-preserved : goal.loop-i-preserved
loop-i-preserved c =
    reply_more (taken_items c.args.end c.loop-i.i c.args.list.now) _ c.in-Some.item.now _ _ _ c.in_ok-push-in-Some.ensures.items c.in_ok-bulk-in-Some.ensures c.loop-i.invariant
    (elim c.match-end.branch [
      | in-Left w ↦ rw (w.in-Left.is) (left_more c.args.list.now c.loop-i.i c.in-Some.item.now (search rules))
      | in-Right w ↦ rw (w.in-Right.is) (right_more c.args.list.now c.loop-i.i c.in-Some.item.now (omega arith) (search rules))
    ])
