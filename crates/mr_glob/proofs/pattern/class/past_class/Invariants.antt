use Rattle.std.proofs.Common.{◌≡◌, ◌≤◌, length}
use Rattle.mr_glob.specs.Glob.{signs, parts_behind_class}
use Rattle.mr_glob.proofs.pattern.class.past_class.Given as goal

abbrev pub invariant-members : goal.invariant-members
invariant-members l = record {
  behind : parts_behind_class (signs l.class) ≡ parts_behind_class (signs l.left);
  no_longer : length l.left ≤ length l.class;
}

abbrev pub decreases-members : goal.decreases-members
decreases-members l = length l.left
