use Rattle.std.proofs.Common.{◌≡◌}
use Rattle.mr_keyspace.specs.Collections.{with_members}
use Rattle.mr_cmd_set.specs.Members.{joined}
use Rattle.mr_cmd_set.proofs.combining.Joined.join.Given as goal

abbrev pub invariant-loop-member : goal.invariant-loop-member
invariant-loop-member l = with_members l.member-iterator l.self.members ≡ joined l.fn.self.members l.set
