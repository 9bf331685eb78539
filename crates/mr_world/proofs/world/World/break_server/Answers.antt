use Rattle.mr_world.proofs.Kept.{break_keeps}
use Rattle.mr_world.proofs.world.World.break_server.Goals as goal

pub invariant_of-self : goal.invariant_of-self
invariant_of-self c = break_keeps c.self.inside.parts c.break_server.new.self c.args.l c.break_server.result c.self.invariant c.break_server.ensures
