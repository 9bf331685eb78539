use Rattle.std.proofs.Common.{◌≡◌, ◌<◌, length, get_or, sym, subst}
use Rattle.std.specs.List.Sorted.{IsStrictlySortedBy}
use Rattle.std.specs.declared.cmp.Ordering.TheVariants.{Equal}
use Rattle.mr_order.proofs.Kept.{sorted_set}
use Rattle.mr_order.proofs.ordered.Ordered.replace_at.Goals as goal

pub invariant_of-self : goal.invariant_of-self
invariant_of-self g c =
    let R = g.T.Ord.cmp in
    let x = c.args.item in
    let within = subst (λ l. c.args.at < length l) (sym c.self.view_is) c.requires.within in
    let equal = subst (λ l. R x (get_or l c.args.at x) ≡ Equal) (sym c.self.view_is) c.requires.equal in
    subst (IsStrictlySortedBy R) (sym c.set.ensures.set) (sorted_set R g.met.T.Ord.total x c.self.inside.places c.args.at c.self.invariant within equal)
