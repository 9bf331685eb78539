use Rattle.std.specs.List.Sorted.{IsPermutation}
use Rattle.mr_cmd_set.specs.Smallest.{IsSmallestFirst}
use Rattle.mr_cmd_set.proofs.combining.put_smallest_first.Given as goal

abbrev pub invariant-loop-place : goal.invariant-loop-place
invariant-loop-place l = record {
  same : IsPermutation l.initial.sets l.sets;
  smallest : IsSmallestFirst l.place l.sets;
}
