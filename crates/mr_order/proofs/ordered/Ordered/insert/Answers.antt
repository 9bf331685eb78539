use Rattle.std.proofs.Common.{◌≡◌, false, subst}
use Rattle.std.specs.BTreeMap.Comparable.{le_lt_trans}
use Rattle.std.specs.BTreeSet.{insert_key}
use Rattle.mr_order.proofs.Changing.{put_key, put_sorted}
use Rattle.mr_order.proofs.Kept.{divided}
use Rattle.mr_order.proofs.ordered.Ordered.insert.Goals as goal

pub put-requires : goal.put-requires
put-requires g c = divided g.T.Ord.cmp (g.T.Ord.cmp c.args.item) c.self.inside.places (λ x y. le_lt_trans g.met.T.Ord.total c.args.item x y) c.self.invariant

pub invariant_of-self-2 : goal.invariant_of-self-2
invariant_of-self-2 g c =
    put_sorted g.T.Ord.cmp c.args.item c.self.inside.places c.put.new.self g.met.T.Ord.total false c.in_ok-other.other c.in_ok-other.ensures.ok c.self.invariant

pub returns-clause-ok : goal.returns-clause-ok
returns-clause-ok g c =
    subst (λ l. c.put.new.self ≡ insert_key g.T.Ord.cmp l c.args.item) c.self.view_is
    (put_key g.T.Ord.cmp c.args.item c.self.inside.places c.put.new.self c.in_ok-other.other c.in_ok-other.ensures.ok)
