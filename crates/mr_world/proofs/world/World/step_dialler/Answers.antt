use Rattle.mr_world.proofs.Heard.{follow_keeps}
use Rattle.mr_world.proofs.world.World.step_dialler.Goals as goal

pub invariant_of-self : goal.invariant_of-self
invariant_of-self c = follow_keeps c.self.inside.parts c.step_dialler.new.self c.args.l c.args.fresh c.step_dialler.result c.self.invariant c.step_dialler.ensures
