use Rattle.mr_world.proofs.Kept.{leave_keeps}
use Rattle.mr_world.proofs.world.World.break_client.Goals as goal

pub invariant_of-self : goal.invariant_of-self
invariant_of-self c = leave_keeps c.self.inside.parts c.break_client.new.self c.args.l c.break_client.result c.self.invariant c.break_client.ensures
