use Rattle.std.proofs.Common.{◌≡◌, ◌++◌, ◌+◌, map, take, drop}
use Rattle.mr_world_parts.specs.Undoing.{unfed_by}
use Rattle.mr_world_parts.proofs.carry.unfeed_front.Given as goal

abbrev pub invariant-loop-k : goal.invariant-loop-k
invariant-loop-k l = (l.links ≡ map (unfed_by l.n l.outs) (take l.k-index l.fn.links) ++ drop l.k-index l.fn.links) × (l.left + l.k-index ≡ l.count)
