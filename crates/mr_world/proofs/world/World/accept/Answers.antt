use Rattle.mr_world.proofs.Connects.{accept_keeps}
use Rattle.mr_world.proofs.world.World.accept.Goals as goal

pub invariant_of-self : goal.invariant_of-self
invariant_of-self c = accept_keeps c.self.inside.parts c.accept.new.self c.args.l c.args.m c.accept.result c.self.invariant c.accept.ensures
