use Rattle.std.proofs.Common.{◌≡◌, ℕ, ◌<◌, ◌≤◌, ◌||◌, length}
use Rattle.std.specs.Prelude.{slice_index}
use Rattle.mr_glob.specs.Glob.{signs, class_signs, in_ranges, parts_behind_class}
use Rattle.mr_glob.specs.GlobPlaces.{is_set}
use Rattle.mr_glob.proofs.pattern.class.ranges_mask.Given as goal

abbrev pub invariant-members : goal.invariant-members
invariant-members l = record {
  marks : (k : ℕ) → k < 64 → in_ranges (class_signs (signs l.class)) (slice_index l.bytes k) ≡ (is_set l.mask k || in_ranges (class_signs (signs l.left)) (slice_index l.bytes k));
  behind : parts_behind_class (signs l.class) ≡ parts_behind_class (signs l.left);
  no_longer : length l.left ≤ length l.class;
}

abbrev pub decreases-members : goal.decreases-members
decreases-members l = length l.left
