use Rattle.std.proofs.Common.{◌∙◌, is_some, ap, subst, sym, vec_capacity}
use Rattle.std.specs.FinMap as map
use Rattle.mr_connections.specs.State.{IsListed}
use Rattle.mr_links.proofs.LinkRows.{remove-absent}
use Rattle.mr_connections.proofs.Indexed.{indexed-remove}
use Rattle.mr_connections.proofs.Listed.{listed-remove}
use Rattle.mr_connections.proofs.Places.{copied_none, copied_some}
use Rattle.mr_connections.proofs.connections.Connections.remove.Goals as goal

pub returns-then-is_none : goal.returns-then-is_none
returns-then-is_none c = remove-absent c.args.self.now c.args.socket (copied_none c.get.result _ c.get.ensures c.if-is_none.ensures)

pub unlist-requires : goal.unlist-requires
unlist-requires c = c.self.invariant.1.once

pub invariant_of-self : goal.invariant_of-self
invariant_of-self c =
    let own = c.self.inside in
    let here = ap (λ m. is_some (map.get m c.args.socket)) c.self.view_is ∙ copied_some c.get.result _ c.get.ensures c.if-is_none.ensures in (
      indexed-remove own.rows own.sockets own.count c.self.invariant.0 c.args.socket c.remove.new.self c.forget_link.new.sockets c.saturating_sub-self-inside.result
          here c.remove.ensures c.forget_link.ensures c.saturating_sub-self-inside.ensures,
      subst (IsListed c.remove.new.self c.unlist.new.done.items) (sym c.unlist.ensures.room)
          (listed-remove own.rows own.done.items (vec_capacity own.done) c.self.invariant.1 c.remove.new.self c.unlist.new.done.items c.args.socket c.remove.ensures c.unlist.ensures.others c.unlist.ensures.once),
    )
