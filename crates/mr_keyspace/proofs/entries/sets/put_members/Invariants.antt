use Rattle.std.proofs.Common.{◌≡◌}
use Rattle.mr_keyspace.specs.Collections.{with_members}
use Rattle.mr_keyspace.proofs.entries.sets.put_members.Given as goal

abbrev pub invariant-loop-member : goal.invariant-loop-member
invariant-loop-member l = with_members l.member-iterator.rest.items l.set ≡ with_members l.fn.members l.fn.set
