use Rattle.std.proofs.Common.{◌≡◌, ◌++◌, map}
use Rattle.std.specs.Prelude.{reverse}
use Rattle.std.specs.List.{flat_map}
use Rattle.std.specs.Slice.Iter.{iter_rest}
use Rattle.std.specs.Iterator.Adapters.{rev_source}
use Rattle.mr_resp.specs.ReplyView.{view}
use Rattle.mr_zset.specs.Pairs.{lent_pair}
use Rattle.mr_cmd_zset.specs.Ranges.{pair_replies}
use Rattle.mr_cmd_zset.proofs.ranges.backward.Given as goal

-- the replies so far, and those to the pairs that are left
abbrev pub invariant-loop-pair : goal.invariant-loop-pair
invariant-loop-pair l = map view l.replies.items ++ flat_map (pair_replies l.shape) (reverse (map lent_pair (iter_rest (rev_source l.pair-iterator)))) ≡ flat_map (pair_replies l.shape) (reverse (map lent_pair l.pairs))
