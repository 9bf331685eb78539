use Rattle.std.proofs.Common.{reverse}
use Rattle.mr_value.proofs.Backwards.{NoneBefore}
use Rattle.mr_value.proofs.matching.place_from_back.Given as goal

abbrev pub invariant-loop-behind : goal.invariant-loop-behind
invariant-loop-behind l = NoneBefore l.item (reverse l.items.items) l.behind
