use Rattle.mr_world.proofs.Restarts.{restart_keeps}
use Rattle.mr_world.proofs.world.World.restart.Goals as goal

pub invariant_of-self : goal.invariant_of-self
invariant_of-self c = restart_keeps c.self.inside.parts c.restart.new.self c.args.n c.args.kept.now c.args.id c.args.config.port c.args.config.backlog c.restart.result c.self.invariant c.bytes.ensures.id c.args.config.some_backlog c.args.config.limited_backlog c.restart.ensures
