use Rattle.mr_world.proofs.Telling.{listen_keeps}
use Rattle.mr_world.proofs.world.World.deliver_to_dialler.Goals as goal

pub invariant_of-self : goal.invariant_of-self
invariant_of-self c = listen_keeps c.self.inside.parts c.deliver_to_dialler.new.self c.args.l c.args.count c.deliver_to_dialler.result c.self.invariant c.deliver_to_dialler.ensures
