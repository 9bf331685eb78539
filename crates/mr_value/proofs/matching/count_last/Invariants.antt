use Rattle.mr_value.proofs.Backwards.{Counts}
use Rattle.mr_value.proofs.matching.count_last.Given as goal

abbrev pub invariant-loop-behind : goal.invariant-loop-behind
invariant-loop-behind l = Counts l.items.items l.item l.most l.behind l.counted
