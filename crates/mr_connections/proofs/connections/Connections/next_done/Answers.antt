use Rattle.std.proofs.Common.{◌≡◌, ◌∙◌, ◌-◌, IfSome, Some, None, [], ap, length, subst, vec_capacity}
use Rattle.std.specs.FinMap as map
use Rattle.std.specs.List.{slice_get}
use Rattle.mr_connections.specs.State.{Rows}
use Rattle.mr_connections.proofs.Listed.{last_done}
use Rattle.mr_connections.proofs.connections.Connections.next_done.Goals as goal

pub returns-clause-some : goal.returns-clause-some
returns-clause-some c =
    let own = c.self.inside in
    subst (λ (m : Rows). IfSome c.copied.result (λ socket. map.get m socket ≡ Some (record { link = None; waiting = [] }))) c.self.view_is
    (last_done own.rows own.done.items (vec_capacity own.done) c.self.invariant.1 c.copied.result (c.copied.ensures ∙ c.last.ensures.value ∙ ap (λ xs. slice_get xs (length xs - 1)) c.deref.ensures.value))
