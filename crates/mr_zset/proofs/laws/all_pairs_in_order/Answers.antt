use Rattle.std.specs.FinMap.{entries}
use Rattle.mr_zset.specs.Pairs.{pair_cmp, pairs_of}
use Rattle.mr_zset.proofs.Orders.{Ascends-in_order, IsPermutation-in_order, IsSorted-ascends}
use Rattle.mr_zset.proofs.PairLemmas.{exact_pair, pairs_total}
use Rattle.mr_zset.proofs.laws.all_pairs_in_order.Goals as goal

pub returns : goal.returns
returns c = record {
  same_pairs = IsPermutation-in_order pair_cmp (entries c.args._set.now);
  ascending = IsSorted-ascends pairs_total exact_pair (pairs_of c.args._set.now) (Ascends-in_order pairs_total (entries c.args._set.now));
}
