use Rattle.std.proofs.Common.{◌≡◌}
use Rattle.mr_connections.proofs.connections.forget_each.Given as goal

abbrev pub invariant-loop-socket : goal.invariant-loop-socket
invariant-loop-socket l = l.rows ≡ l.fn.rows
