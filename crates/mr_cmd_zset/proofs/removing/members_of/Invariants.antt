use Rattle.std.proofs.Common.{◌≡◌, map, take}
use Rattle.mr_map.specs.Bytes.{lent}
use Rattle.mr_zset.specs.Pairs.{lent_pair}
use Rattle.mr_cmd_zset.specs.Removing.{members_of}
use Rattle.mr_cmd_zset.proofs.removing.members_of.Given as goal

abbrev pub invariant-loop-pair : goal.invariant-loop-pair
invariant-loop-pair l = lent l.members.items ≡ members_of (map lent_pair (take l.pair-index l.pairs))
