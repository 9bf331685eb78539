use Rattle.mr_world.proofs.Connects.{connect_keeps}
use Rattle.mr_world.proofs.world.World.connect.Goals as goal

pub invariant_of-self : goal.invariant_of-self
invariant_of-self c = connect_keeps c.self.inside.parts c.connect.new.self c.args.n c.connect.result c.self.invariant c.connect.ensures
