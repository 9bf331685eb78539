use Rattle.std.proofs.Common.{◌∙◌, ap, vec_capacity}
use Rattle.std.specs.FinMap as map
use Rattle.mr_connections.specs.State.{is_done_at, left}
use Rattle.mr_connections.proofs.Indexed.{indexed-left}
use Rattle.mr_connections.proofs.Listed.{done_before, has_room, listed-changed}
use Rattle.mr_connections.proofs.connections.Connections.leave.Goals as goal

pub list_done-requires : goal.list_done-requires
list_done-requires c = λ done.
    let own = c.self.inside in
    has_room own.rows own.done.items (vec_capacity own.done) c.self.invariant.1 c.args.socket (ap (λ m. is_done_at (map.get m c.args.socket)) c.self.view_is ∙ c.requires) (done_before own.rows c.leave.new.rows c.args.socket left c.leave.ensures done)

pub invariant_of-self : goal.invariant_of-self
invariant_of-self c =
    let own = c.self.inside in (
      indexed-left own.rows own.sockets own.count c.self.invariant.0 c.args.socket c.leave.new.rows c.forget_link.new.sockets c.leave.ensures c.forget_link.ensures,
      listed-changed own.rows own.done.items (vec_capacity own.done) c.self.invariant.1 c.leave.new.rows c.list_done.new.done.items (vec_capacity c.list_done.new.done) c.args.socket left (ap (λ m. is_done_at (map.get m c.args.socket)) c.self.view_is ∙ c.requires) c.leave.ensures c.list_done.ensures.items c.list_done.ensures.room,
    )
