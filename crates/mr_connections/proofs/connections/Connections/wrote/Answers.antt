use Rattle.std.proofs.Common.{◌∙◌, refl, sym, ap, vec_capacity}
use Rattle.std.specs.FinMap as map
use Rattle.mr_connections.specs.State.{is_done_at, wrote}
use Rattle.mr_connections.proofs.Indexed.{indexed-changed}
use Rattle.mr_connections.proofs.Listed.{done_before, has_room, listed-changed, wrote_nothing}
use Rattle.mr_connections.proofs.connections.Connections.wrote.Goals as goal

pub returns-then-is_done : goal.returns-then-is_done
returns-then-is_done c = wrote_nothing c.args.self.now c.args.socket c.args.count (ap (λ m. is_done_at (map.get m c.args.socket)) (sym c.self.view_is) ∙ sym c.is_done.ensures ∙ c.if-is_done.true)

pub list_done-requires : goal.list_done-requires
list_done-requires c = λ done.
    let own = c.self.inside in
    has_room own.rows own.done.items (vec_capacity own.done) c.self.invariant.1 c.args.socket (sym c.is_done.ensures ∙ c.if-is_done.false) (done_before own.rows c.advance.new.rows c.args.socket (wrote c.args.count) c.advance.ensures done)

pub invariant_of-self : goal.invariant_of-self
invariant_of-self c =
    let own = c.self.inside in (
      indexed-changed own.rows own.sockets own.count c.self.invariant.0 (wrote c.args.count) c.args.socket c.advance.new.rows (λ b. refl) c.advance.ensures,
      listed-changed own.rows own.done.items (vec_capacity own.done) c.self.invariant.1 c.advance.new.rows c.list_done.new.done.items (vec_capacity c.list_done.new.done) c.args.socket (wrote c.args.count) (sym c.is_done.ensures ∙ c.if-is_done.false) c.advance.ensures c.list_done.ensures.items c.list_done.ensures.room,
    )
