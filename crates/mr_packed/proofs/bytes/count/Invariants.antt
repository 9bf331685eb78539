use Rattle.std.proofs.Common.{◌≡◌, ◌≤◌, length}
use Rattle.mr_packed.specs.Packing.{start_of, strings_of}
use Rattle.mr_packed.proofs.bytes.count.Given as goal

abbrev pub invariant-loop-at : goal.invariant-loop-at
invariant-loop-at l = record {
  here : l.here ≡ start_of (strings_of l.bytes) l.at;
  within : l.at ≤ length (strings_of l.bytes);
}
