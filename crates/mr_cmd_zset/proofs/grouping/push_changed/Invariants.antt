use Rattle.std.proofs.Common.{◌≡◌}
use Rattle.std.specs.FinMap.{entries}
use Rattle.mr_effect.specs.declared.effect.Effect.TheVariants as made
use Rattle.mr_cmd_zset.proofs.Differences.{alone}
use Rattle.mr_cmd_zset.proofs.Pushing.{IsPushing}
use Rattle.mr_cmd_zset.proofs.grouping.push_changed.Given as goal

abbrev pub invariant-loop-member : goal.invariant-loop-member
invariant-loop-member l = record {
  key : l.group.key.now ≡ l.key;
  pushing : IsPushing (made.SetScores l.key) (alone l.set) (entries l.scores) l.initial.effects l.effects l.group.scores l.member-iterator;
}
