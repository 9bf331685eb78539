use Rattle.mr_world.proofs.Kept.{client_keeps}
use Rattle.mr_world.proofs.world.World.client.Goals as goal

pub invariant_of-self : goal.invariant_of-self
invariant_of-self c = client_keeps c.self.inside.parts c.client.new.self c.args.n c.client.result c.self.invariant c.client.ensures
