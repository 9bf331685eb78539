use Rattle.std.proofs.Common.{◌≡◌, ◌++◌, map, drop}
use Rattle.mr_resp.specs.ReplyView.{view}
use Rattle.mr_info.specs.Roles.{replica_tree}
use Rattle.mr_info.proofs.roles.replies_of.Given as goal

abbrev pub invariant-loop-replica : goal.invariant-loop-replica
invariant-loop-replica l = map view l.replies.items ++ map replica_tree (drop l.replica-index l.replicas) ≡ map replica_tree l.replicas
