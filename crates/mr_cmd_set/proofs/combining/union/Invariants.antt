use Rattle.std.proofs.Common.{◌≡◌, take}
use Rattle.mr_cmd_set.specs.declared.set_ask.SetOperation.TheVariants as operation
use Rattle.mr_cmd_set.specs.Combining.{of_all}
use Rattle.mr_cmd_set.specs.Grouping.{members_of}
use Rattle.mr_cmd_set.proofs.combining.union.Given as goal

abbrev pub invariant-loop-set : goal.invariant-loop-set
invariant-loop-set l = l.members.members ≡ of_all operation.Union l.first (members_of (take l.set-index l.others))
