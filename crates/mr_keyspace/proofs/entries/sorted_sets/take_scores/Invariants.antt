use Rattle.std.proofs.Common.{◌≡◌, drop}
use Rattle.mr_keyspace.specs.Collections.{without_scores}
use Rattle.mr_keyspace.proofs.entries.sorted_sets.take_scores.Given as goal

abbrev pub invariant-loop-member : goal.invariant-loop-member
invariant-loop-member l = without_scores (drop l.member-index l.members) l.set ≡ without_scores l.fn.members l.fn.set
