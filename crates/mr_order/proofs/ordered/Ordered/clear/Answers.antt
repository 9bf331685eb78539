use Rattle.std.proofs.Common.{sym, subst}
use Rattle.std.specs.List.Sorted.{IsStrictlySortedBy}
use Rattle.mr_order.proofs.Kept.{sorted_none}
use Rattle.mr_order.proofs.ordered.Ordered.clear.Goals as goal

pub invariant_of-self : goal.invariant_of-self
invariant_of-self g c = subst (IsStrictlySortedBy g.T.Ord.cmp) (sym c.clear.ensures) (sorted_none g.T.Ord.cmp)
