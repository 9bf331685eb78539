use Rattle.mr_world.proofs.Feeding.{deliver_keeps}
use Rattle.mr_world.proofs.world.World.deliver_to_server.Goals as goal

pub invariant_of-self : goal.invariant_of-self
invariant_of-self c = deliver_keeps c.self.inside.parts c.deliver_to_server.new.self c.args.l c.args.count c.deliver_to_server.result c.self.invariant c.deliver_to_server.ensures
