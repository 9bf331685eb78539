use Rattle.mr_world.proofs.Kept.{take_keeps}
use Rattle.mr_world.proofs.world.World.deliver_to_client.Goals as goal

pub invariant_of-self : goal.invariant_of-self
invariant_of-self c = take_keeps c.self.inside.parts c.deliver_to_client.new.self c.args.l c.args.count c.deliver_to_client.result c.self.invariant c.deliver_to_client.ensures
