use Rattle.std.proofs.Common.{◌≡◌, length}
use Rattle.mr_node.proofs.node.Node.seen_replicas.Given as goal

abbrev pub invariant-loop-name : goal.invariant-loop-name
invariant-loop-name l = length l.replicas.items ≡ l.name-index
