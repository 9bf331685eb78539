use Rattle.mr_order.proofs.Kept.{divided}
use Rattle.mr_order.proofs.ordered.Ordered.get.Goals as goal

pub get-requires : goal.get-requires
get-requires g c = divided g.T.Ord.cmp (g.Q.Query.compare c.args.query) c.self.inside.places (λ x y. g.met.Q.Query.below_greater c.args.query x y) c.self.invariant
