use Rattle.mr_world.proofs.Ticking.{tick_keeps}
use Rattle.mr_world.proofs.world.World.tick.Goals as goal

pub invariant_of-self : goal.invariant_of-self
invariant_of-self c = tick_keeps c.self.inside.parts c.tick.new.self c.args.n c.args.given.now c.tick.result c.self.invariant c.tick.ensures
