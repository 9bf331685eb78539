use Rattle.std.proofs.Common.{◌≡◌, take}
use Rattle.mr_cmd_set.specs.Members.{as_set}
use Rattle.mr_cmd_set.specs.Grouping.{lent}
use Rattle.mr_cmd_set.proofs.drawing.in_order.Given as goal

abbrev pub invariant-loop-member : goal.invariant-loop-member
invariant-loop-member l = l.members ≡ as_set (lent (take l.member-index l.drawn))
