use Rattle.std.proofs.Common.{◌≡◌}
use Rattle.mr_wire.proofs.socket_wire.remember.Given as goal

abbrev pub invariant-loop-event : goal.invariant-loop-event
invariant-loop-event l = l.links ≡ l.fn.links
