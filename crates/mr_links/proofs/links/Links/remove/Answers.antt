use Rattle.mr_links.proofs.Generations.{numbered_remove}
use Rattle.mr_links.proofs.links.Links.remove.Goals as goal

pub invariant_of-self : goal.invariant_of-self
invariant_of-self g c = numbered_remove c.self.inside.opened c.self.inside.rows c.remove.new.self c.args.id c.remove.ensures.removed c.self.invariant
