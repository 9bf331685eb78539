use Rattle.std.proofs.Common.{◌≡◌, ◌≤◌, length, take}
use Rattle.mr_packed.specs.Packing.{IsNowhere, spelled_all, strings_of}
use Rattle.mr_packed.proofs.packed.Packed.find.Given as goal

abbrev pub invariant-loop-at : goal.invariant-loop-at
invariant-loop-at l = record {
  within : l.at ≤ length (strings_of l.self-inside.bytes.items);
  start : l.start ≡ length (spelled_all (take l.at (strings_of l.self-inside.bytes.items)));
  nowhere : IsNowhere (strings_of l.self-inside.bytes.items) l.step l.string l.at;
}
