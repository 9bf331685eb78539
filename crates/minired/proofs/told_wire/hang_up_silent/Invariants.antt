use Rattle.std.proofs.Common.{◌≡◌}
use Rattle.minired.proofs.told_wire.hang_up_silent.Given as goal

abbrev pub invariant-loop-index : goal.invariant-loop-index
invariant-loop-index l = (l.wire.links ≡ l.fn.wire.links) × (l.wire.failed ≡ l.fn.wire.failed)
