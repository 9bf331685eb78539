use Rattle.std.proofs.Common.{◌≡◌, ◌∷◌, [], drop}
use Rattle.mr_effect.specs.declared.effect.Effect.TheVariants as made
use Rattle.mr_cmd_zset.proofs.Pushing.{IsPushing}
use Rattle.mr_cmd_zset.proofs.grouping.push_lost.Given as goal

abbrev pub invariant-loop-member : goal.invariant-loop-member
invariant-loop-member l = record {
  key : l.group.key.now ≡ l.key;
  pushing : IsPushing (made.RemoveScores l.key) (λ m. m.now ∷ []) l.members l.initial.effects l.effects l.group.members (drop l.member-index l.members);
}
