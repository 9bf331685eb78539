use Rattle.std.proofs.Common.{◌≡◌, drop}
use Rattle.mr_keyspace.specs.Collections.{without_members}
use Rattle.mr_keyspace.proofs.entries.sets.take_members.Given as goal

abbrev pub invariant-loop-member : goal.invariant-loop-member
invariant-loop-member l = without_members (drop l.member-index l.members) l.set ≡ without_members l.fn.members l.fn.set
