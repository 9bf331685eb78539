use Rattle.std.specs.BTreeMap.Comparable.{le_lt_trans}
use Rattle.std.specs.Prelude.{true}
use Rattle.mr_order.proofs.Changing.{put_keeps}
use Rattle.mr_order.proofs.Kept.{divided}
use Rattle.mr_order.proofs.ordered.Ordered.replace.Goals as goal

pub put-requires : goal.put-requires
put-requires g c = divided g.T.Ord.cmp (g.T.Ord.cmp c.args.item) c.self.inside.places (λ x y. le_lt_trans g.met.T.Ord.total c.args.item x y) c.self.invariant

pub invariant_of-self : goal.invariant_of-self
invariant_of-self g c = put_keeps g.T.Ord.cmp c.args.item c.self.inside.places c.put.new.self g.met.T.Ord.total true c.put.result c.put.ensures.ok c.put.ensures.err c.self.invariant
