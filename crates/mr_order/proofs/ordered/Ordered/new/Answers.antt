use Rattle.std.proofs.Common.{sym, subst}
use Rattle.std.specs.List.Sorted.{IsStrictlySortedBy}
use Rattle.mr_order.proofs.Kept.{sorted_none}
use Rattle.mr_order.proofs.ordered.Ordered.new.Goals as goal

pub invariant_of-result : goal.invariant_of-result
invariant_of-result g c = subst (IsStrictlySortedBy g.T.Ord.cmp) (sym c.new.ensures) (sorted_none g.T.Ord.cmp)
