use Rattle.std.proofs.Common.{◌≡◌}
use Rattle.mr_packed.specs.Packing.{start_of, strings_of}
use Rattle.mr_packed.proofs.bytes.walk.Given as goal

abbrev pub invariant-loop : goal.invariant-loop
invariant-loop l = l.here ≡ start_of (strings_of l.bytes) l.counter
