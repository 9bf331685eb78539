use Rattle.std.specs.FinMap.{entries}
use Rattle.mr_effect.specs.declared.effect.Effect.TheVariants as made
use Rattle.mr_data.proofs.Grouping.{IsWriting}
use Rattle.mr_data.proofs.rebuilding.push_sorted_set.Given as goal

abbrev pub invariant-loop-member : goal.invariant-loop-member
invariant-loop-member l = IsWriting (made.SetScores l.fn.key) l.fn.out.items l.out.items l.group l.member-iterator (entries l.fn.scores)
