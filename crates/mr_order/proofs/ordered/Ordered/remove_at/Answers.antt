use Rattle.std.proofs.Common.{◌<◌, length, sym, subst}
use Rattle.std.specs.List.Sorted.{IsStrictlySortedBy}
use Rattle.mr_order.proofs.Kept.{sorted_remove}
use Rattle.mr_order.proofs.ordered.Ordered.remove_at.Goals as goal

pub invariant_of-self : goal.invariant_of-self
invariant_of-self g c =
    let within : c.args.at < length c.self.inside.places = subst (λ l. c.args.at < length l) (sym c.self.view_is) c.requires in
    subst (IsStrictlySortedBy g.T.Ord.cmp) (sym c.remove.ensures.removed) (sorted_remove g.T.Ord.cmp g.met.T.Ord.total c.remove.result c.self.inside.places c.args.at c.self.invariant within)
