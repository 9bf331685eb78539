use Rattle.mr_zset.specs.Leaving.{AreBetween}
use Rattle.mr_zset.proofs.leaving.span.Given as goal

abbrev pub invariant-loop-pair : goal.invariant-loop-pair
invariant-loop-pair l = AreBetween l.least l.greatest l.pairs l.pair-index
