use Rattle.std.proofs.Common.{◌∙◌, ap, refl, sym, subst, vec_capacity}
use Rattle.std.specs.FinMap as map
use Rattle.mr_connections.specs.State.{IsIndexed, IsListed, is_done_at, pushed}
use Rattle.mr_connections.proofs.Indexed.{either_way, indexed-changed}
use Rattle.mr_connections.proofs.Listed.{listed-pushed}
use Rattle.mr_connections.proofs.connections.Connections.push_whole.Goals as goal

pub invariant_of-self : goal.invariant_of-self
invariant_of-self c =
    let own = c.self.inside in let room = vec_capacity own.done in
    either_way c.push_whole.result c.push_whole.ensures.ok c.push_whole.ensures.err
    (λ is. (
      indexed-changed own.rows own.sockets own.count c.self.invariant.0 (pushed c.args.bytes.now.items) c.args.socket c.push_whole.new.rows (λ b. refl) is,
      listed-pushed own.rows own.done.items room c.self.invariant.1 c.push_whole.new.rows c.args.socket c.args.bytes.now.items (ap (λ m. is_done_at (map.get m c.args.socket)) c.self.view_is ∙ c.requires) is,
    ))
    (λ same. (
      subst (λ m. IsIndexed m own.sockets own.count) (sym same) c.self.invariant.0,
      subst (λ m. IsListed m own.done.items room) (sym same) c.self.invariant.1,
    ))
