use Rattle.std.proofs.Common.{◌≡◌, ◌++◌, map}
use Rattle.std.specs.Prelude.{slice_range}
use Rattle.mr_zset.specs.Pairs.{lent_pair}
use Rattle.mr_zset.specs.Stored.{stored}
use Rattle.mr_zset.proofs.stored.pairs_between.Given as goal

-- the pairs so far, and those that are still to come
abbrev pub invariant-loop-entry : goal.invariant-loop-entry
invariant-loop-entry l = map lent_pair l.part.items ++ map stored l.entry-iterator ≡ map stored (slice_range l.pairs l.from l.to)
