use Rattle.std.proofs.Common.{◌≤◌, length, sym, subst}
use Rattle.std.specs.List.Sorted.{IsStrictlySortedBy}
use Rattle.mr_order.proofs.Ranges.{sorted_range}
use Rattle.mr_order.proofs.ordered.Ordered.remove_range.Goals as goal

pub invariant_of-self : goal.invariant_of-self
invariant_of-self g c =
    let within : c.args.to ≤ length c.self.inside.places = subst (λ l. c.args.to ≤ length l) (sym c.self.view_is) c.requires.within in
    subst (IsStrictlySortedBy g.T.Ord.cmp) (sym c.remove_range.ensures) (sorted_range g.T.Ord.cmp g.met.T.Ord.total c.self.inside.places c.args.from c.args.to c.self.invariant c.requires.ordered within)
