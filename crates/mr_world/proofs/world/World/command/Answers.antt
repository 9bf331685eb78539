use Rattle.mr_world.proofs.Kept.{command_keeps}
use Rattle.mr_world.proofs.world.World.command.Goals as goal

pub invariant_of-self : goal.invariant_of-self
invariant_of-self c = command_keeps c.self.inside.parts c.command.new.self c.args.l c.args.bytes.now c.command.result c.self.invariant c.command.ensures
