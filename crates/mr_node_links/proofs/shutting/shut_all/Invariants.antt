use Rattle.std.proofs.Common.{◌≡◌, length}
use Rattle.mr_node_links.proofs.Naming.{Shutting}
use Rattle.mr_node_links.proofs.shutting.shut_all.Given as goal

abbrev pub invariant-loop-name : goal.invariant-loop-name
invariant-loop-name l = record {
  ends : Shutting l.names l.rest l.fn.links.open_links l.links.open_links;
  opened : l.links.opened ≡ l.fn.links.opened;
}

abbrev pub decreases-loop-name : goal.decreases-loop-name
decreases-loop-name l = length l.rest
