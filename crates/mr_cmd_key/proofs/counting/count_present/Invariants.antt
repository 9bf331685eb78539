use Rattle.std.specs.Cow.{cow_slice_items}
use Rattle.mr_cmd_key.proofs.PlanLemmas.{Counts}
use Rattle.mr_cmd_key.proofs.counting.count_present.Given as goal

-- those of the keys so far are counted
abbrev pub invariant-loop-key : goal.invariant-loop-key
invariant-loop-key l = Counts cow_slice_items l.fn.given.now l.held l.keys l.count l.key-index
