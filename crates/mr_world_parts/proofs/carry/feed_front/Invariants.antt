use Rattle.std.proofs.Common.{◌≡◌, ◌++◌, map, take, drop}
use Rattle.mr_world_parts.specs.Undoing.{fed_by}
use Rattle.mr_world_parts.proofs.carry.feed_front.Given as goal

abbrev pub invariant-loop-k : goal.invariant-loop-k
invariant-loop-k l = (l.links ≡ map (fed_by l.n l.outs) (take l.k-index l.fn.links) ++ drop l.k-index l.fn.links) × (l.count ≡ l.k-index)
