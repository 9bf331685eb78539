use Rattle.std.proofs.Common.{◌≡◌, ◌++◌, map, take, drop}
use Rattle.mr_world_parts.specs.AtLink.{shut_at}
use Rattle.mr_world.proofs.parts.restarting.shut_ends.Given as goal

abbrev pub invariant-loop-k : goal.invariant-loop-k
invariant-loop-k l = l.links ≡ map (shut_at l.n) (take l.k-index l.fn.links) ++ drop l.k-index l.fn.links
