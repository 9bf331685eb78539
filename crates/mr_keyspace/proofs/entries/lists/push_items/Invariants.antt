use Rattle.std.proofs.Common.{◌≡◌}
use Rattle.mr_keyspace.specs.Collections.{pushed}
use Rattle.mr_keyspace.proofs.entries.lists.push_items.Given as goal

abbrev pub invariant-loop-item : goal.invariant-loop-item
invariant-loop-item l = pushed l.fn.end l.item-iterator.rest.items l.list ≡ pushed l.fn.end l.fn.items l.fn.list
