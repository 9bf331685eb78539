use Rattle.mr_world.proofs.Kept.{start_keeps}
use Rattle.mr_world.proofs.world.World.start.Goals as goal

pub invariant_of-self : goal.invariant_of-self
invariant_of-self c = start_keeps c.self.inside.parts c.start.new.self c.args.id c.args.config.replica c.args.config.port c.args.config.backlog c.start.result c.self.invariant c.bytes.ensures.id c.args.config.some_backlog c.args.config.limited_backlog c.start.ensures
