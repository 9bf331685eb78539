use Rattle.std.proofs.Common.{◌-◌, length}
use Rattle.std.specs.Cow.{cow_slice_items}
use Rattle.mr_cmd_list.proofs.PushLemmas.{HasPushed}
use Rattle.mr_cmd_list.proofs.pushes.push_groups.Given as goal

abbrev pub invariant-loop-start : goal.invariant-loop-start
invariant-loop-start l = HasPushed l.key l.end cow_slice_items l.items l.start l.initial.effects l.effects

abbrev pub decreases-loop-start : goal.decreases-loop-start
decreases-loop-start l = length l.items - l.start
