use Rattle.mr_links.proofs.Generations.{numbered_empty}
use Rattle.mr_links.proofs.links.Links.new.Goals as goal

pub invariant_of-result : goal.invariant_of-result
invariant_of-result g c = numbered_empty 0 c.«new».result c.«new».ensures
