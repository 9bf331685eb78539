use Rattle.std.proofs.Common.{◌∙◌, arith, sym, ap, subst, vec_capacity}
use Rattle.std.specs.FinMap as map
use Rattle.mr_connections.specs.State.{IsIndexed, IsListed}
use Rattle.mr_connections.proofs.Indexed.{at_err, at_ok, indexed-insert, indexed-undone}
use Rattle.mr_connections.proofs.Listed.{listed-insert, listed-same}
use Rattle.mr_connections.proofs.connections.Connections.join.Goals as goal

pub invariant_of-self-then-is_err : goal.invariant_of-self-then-is_err
invariant_of-self-then-is_err c =
    let own = c.self.inside in let same = at_err c.put-2.result c.if-is_err.ensures.value c.put-2.ensures.err in (
      subst (λ m. IsIndexed m c.remove.new.self own.count) (sym same)
          (indexed-undone own.rows own.sockets own.count c.self.invariant.0 c.args.socket c.args.link c.put.new.self c.remove.new.self c.in_ok-put.ensures.free c.in_ok-put.ensures.ok c.remove.ensures),
      listed-same own.rows own.done.items (vec_capacity own.done) c.self.invariant.1 c.put-2.new.self c.reserve-3.new.self.items (vec_capacity c.reserve-3.new.self) same c.reserve-3.ensures.items c.reserve-3.ensures.capacity,
    )

pub invariant_of-self-2 : goal.invariant_of-self-2
invariant_of-self-2 c =
    let own = c.self.inside in let added = c.if-is_err.ensures.negation in
    let absent = at_ok c.put-2.result added c.put-2.ensures.free in
    let is = at_ok c.put-2.result added c.put-2.ensures.ok ∙ ap (map.insert own.rows c.args.socket) c.new-connection.ensures in
    let indexed = indexed-insert own.rows own.sockets own.count c.self.invariant.0 c.args.socket c.args.link c.put-2.new.self c.put.new.self c.in-Some.count absent c.in_ok-put.ensures.free is c.in_ok-put.ensures.ok c.in-Some.ensures.1 in
    let counted = indexed.counted in let room = c.in_ok-reserve-3.ensures.ok in (
      indexed,
      subst (λ xs. IsListed c.put-2.new.self xs (vec_capacity c.reserve-3.new.self)) (sym c.reserve-3.ensures.items)
          (listed-insert own.rows own.done.items (vec_capacity own.done) c.self.invariant.1 c.put-2.new.self (vec_capacity c.reserve-3.new.self) c.args.socket c.args.link absent is (omega (arith, counted, room))),
    )
