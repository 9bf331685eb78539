use Rattle.std.proofs.Common.{◌≡◌}
use Rattle.mr_wire.proofs.socket_wire.put_back.Given as goal

abbrev pub invariant-loop : goal.invariant-loop
invariant-loop l = l.links ≡ l.fn.links
