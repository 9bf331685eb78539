use Rattle.mr_world.proofs.Dialling.{drop_keeps}
use Rattle.mr_world.proofs.world.World.break_dialler.Goals as goal

pub invariant_of-self : goal.invariant_of-self
invariant_of-self c = drop_keeps c.self.inside.parts c.break_dialler.new.self c.args.l c.break_dialler.result c.self.invariant c.break_dialler.ensures
