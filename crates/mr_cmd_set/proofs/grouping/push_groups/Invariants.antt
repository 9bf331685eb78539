use Rattle.std.specs.FinMap.{keys}
use Rattle.mr_cmd_set.specs.Grouping.{group_effect}
use Rattle.mr_cmd_set.proofs.Pushing.{IsPushing}
use Rattle.mr_cmd_set.proofs.grouping.push_groups.Given as goal

abbrev pub invariant-loop-member : goal.invariant-loop-member
invariant-loop-member l = IsPushing (group_effect l.fn.write l.fn.key) l.fn.effects l.effects l.group l.member-iterator (keys l.fn.members)
