use Rattle.std.proofs.Common.{◌≡◌, take}
use Rattle.mr_keyspace.proofs.entries.copying.same_pairs.Given as goal

abbrev pub invariant-loop-pair : goal.invariant-loop-pair
invariant-loop-pair l = l.same_pairs ≡ take l.pair-index l.pairs
