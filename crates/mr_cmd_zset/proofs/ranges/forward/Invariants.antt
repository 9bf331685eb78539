use Rattle.std.proofs.Common.{◌≡◌, ◌++◌, map, drop}
use Rattle.std.specs.List.{flat_map}
use Rattle.mr_resp.specs.ReplyView.{view}
use Rattle.mr_zset.specs.Pairs.{lent_pair}
use Rattle.mr_cmd_zset.specs.Ranges.{pair_replies}
use Rattle.mr_cmd_zset.proofs.ranges.forward.Given as goal

-- the replies so far, and those to the pairs that are left
abbrev pub invariant-loop-pair : goal.invariant-loop-pair
invariant-loop-pair l = map view l.replies.items ++ flat_map (pair_replies l.shape) (map lent_pair (drop l.pair-index l.pairs)) ≡ flat_map (pair_replies l.shape) (map lent_pair l.pairs)
