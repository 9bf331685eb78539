use Rattle.std.proofs.Common.{◌≡◌, ◌≤◌, length}
use Rattle.mr_packed.specs.Packing.{AreBelow, start_of, strings_of}
use Rattle.mr_packed.proofs.packed.Packed.seek.Given as goal

abbrev pub invariant-loop-at : goal.invariant-loop-at
invariant-loop-at l = record {
  within : l.at ≤ length (strings_of l.self-inside.bytes.items);
  start : l.start ≡ start_of (strings_of l.self-inside.bytes.items) l.at;
  below : AreBelow (strings_of l.self-inside.bytes.items) l.string l.at;
}
