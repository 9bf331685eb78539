use Rattle.std.proofs.Common.{◌≡◌, ◌+◌, length, take}
use Rattle.std.specs.List.{flat_map}
use Rattle.mr_order.proofs.parts.find.Given as goal

abbrev pub invariant-loop-index : goal.invariant-loop-index
invariant-loop-index g l = length (flat_map g.P.Part.items (take l.index l.parts)) + l.rest ≡ l.at
