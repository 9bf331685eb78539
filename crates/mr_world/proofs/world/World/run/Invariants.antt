use Rattle.std.proofs.Common.{◌≡◌, take}
use Rattle.mr_world.specs.Running.{TookAll}
use Rattle.mr_world.proofs.world.World.run.Given as goal

abbrev pub invariant-loop-event : goal.invariant-loop-event
invariant-loop-event l = (l.count ≡ l.event-index) × TookAll l.fn.self (take l.event-index l.events) l.self
