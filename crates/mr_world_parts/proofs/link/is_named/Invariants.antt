use Rattle.std.proofs.Common.{◌≡◌, drop}
use Rattle.mr_node_links.specs.Replicas.{is_named}
use Rattle.mr_world_parts.proofs.link.is_named.Given as goal

abbrev pub invariant-loop-other : goal.invariant-loop-other
invariant-loop-other l = is_named (drop l.other-index l.names) l.name ≡ is_named l.names l.name
