use Rattle.std.proofs.Common.{◌≡◌, drop, map}
use Rattle.mr_zset.specs.Leaving.{without_pairs}
use Rattle.mr_zset.specs.Pairs.{lent_pair}
use Rattle.mr_zset.specs.Stored.{stored}
use Rattle.mr_zset.proofs.leaving.take_out_each.Given as goal

abbrev pub invariant-loop-pair : goal.invariant-loop-pair
invariant-loop-pair l = without_pairs (map lent_pair (drop l.pair-index l.gone)) (map stored l.pairs) ≡ without_pairs (map lent_pair l.gone) (map stored l.fn.pairs)
