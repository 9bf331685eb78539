use Rattle.std.proofs.Common.{◌≡◌, take}
use Rattle.mr_groups.proofs.owning.owned_pairs.Given as goal

abbrev pub invariant-loop-pair : goal.invariant-loop-pair
invariant-loop-pair l = l.owned ≡ take l.pair-index l.pairs
