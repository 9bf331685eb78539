use Rattle.std.proofs.Common.{◌∙◌, ap, refl, sym, subst, vec_capacity}
use Rattle.std.specs.FinMap as map
use Rattle.mr_connections.specs.State.{IsIndexed, IsListed, is_done_at, pushed}
use Rattle.mr_connections.proofs.Indexed.{either_way, indexed-changed}
use Rattle.mr_connections.proofs.Listed.{listed-pushed}
use Rattle.mr_connections.proofs.connections.Connections.push_shared.Goals as goal

pub invariant_of-self : goal.invariant_of-self
invariant_of-self c =
    let own = c.self.inside in let room = vec_capacity own.done in
    either_way c.push_shared.result c.push_shared.ensures.ok c.push_shared.ensures.err
    (λ is. (
      indexed-changed own.rows own.sockets own.count c.self.invariant.0 (pushed c.args.text.value.items) c.args.socket c.push_shared.new.rows (λ b. refl) is,
      listed-pushed own.rows own.done.items room c.self.invariant.1 c.push_shared.new.rows c.args.socket c.args.text.value.items (ap (λ m. is_done_at (map.get m c.args.socket)) c.self.view_is ∙ c.requires) is,
    ))
    (λ same. (
      subst (λ m. IsIndexed m own.sockets own.count) (sym same) c.self.invariant.0,
      subst (λ m. IsListed m own.done.items room) (sym same) c.self.invariant.1,
    ))
