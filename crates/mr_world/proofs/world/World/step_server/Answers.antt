use Rattle.mr_world.proofs.Servings.{step_keeps}
use Rattle.mr_world.proofs.world.World.step_server.Goals as goal

pub invariant_of-self : goal.invariant_of-self
invariant_of-self c = step_keeps c.self.inside.parts c.step_server.new.self c.args.l c.args.given c.args.fresh c.step_server.result c.self.invariant c.step_server.ensures
