use Rattle.mr_world.proofs.Connects.{dial_keeps}
use Rattle.mr_world.proofs.world.World.dial.Goals as goal

pub invariant_of-self : goal.invariant_of-self
invariant_of-self c = dial_keeps c.self.inside.parts c.dial.new.self c.args.n c.args.m c.dial.result c.self.invariant c.dial.ensures
