-- A node that spends its dataset is stopped.
use Rattle.std.proofs.Common.{◌≡◌, false, ap}
use Rattle.mr_data.specs.declared.given.Given.{Given}
use Rattle.mr_node_spec.specs.State.{NodeState}
use Rattle.law_refinement.specs.State.{Link}
use Rattle.mr_world.specs.Serving.{Spends}

pub spends_down : (k : Link) (a : NodeState) (given : Given) (b : NodeState) → Spends k a given b → b.core.up ≡ false
spends_down k a given b (Spends.client q g stops) = ap (λ (z : NodeState). z.core.up) stops.spent
spends_down k a given b (Spends.within t q g stops) = ap (λ (z : NodeState). z.core.up) stops.spent
