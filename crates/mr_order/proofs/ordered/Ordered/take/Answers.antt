use Rattle.mr_order.proofs.Changing.{taken_sorted}
use Rattle.mr_order.proofs.Kept.{divided}
use Rattle.mr_order.proofs.ordered.Ordered.take.Goals as goal

pub take-requires : goal.take-requires
take-requires g c = divided g.T.Ord.cmp (g.Q.Query.compare c.args.query) c.self.inside.places (λ x y. g.met.Q.Query.below_greater c.args.query x y) c.self.invariant

pub invariant_of-self : goal.invariant_of-self
invariant_of-self g c = taken_sorted g.T.Ord.cmp g.met.T.Ord.total (g.Q.Query.compare c.args.query) c.self.inside.places c.take.new.self c.take.result c.take.ensures c.self.invariant
