use Rattle.std.proofs.Common.{◌+◌, arith}
use Rattle.mr_links.proofs.Generations.{numbered_insert}
use Rattle.mr_links.proofs.links.Links.insert.Goals as goal

pub invariant_of-self-2 : goal.invariant_of-self-2
invariant_of-self-2 g c =
    let opened = c.self.inside.opened in let new = c.in_ok-id.ensures.generation in
    numbered_insert opened (opened + 1) c.self.inside.rows c.insert.new.self c.in_ok-id.id c.args.link c.in_ok-id.ensures.inserted c.self.invariant (omega arith) (omega (arith, new))
    (λ q link found same. absurd (let under = c.self.invariant.below q link found in omega (arith, under, same, new)))
