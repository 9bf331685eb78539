use Rattle.std.proofs.Common.{◌≡◌, map, not}
use Rattle.std.specs.FinMap.{keys, contains_key}
use Rattle.mr_effect.specs.declared.effect.Effect.TheVariants as made
use Rattle.mr_cmd_hash.proofs.Pushing.{IsPushing}
use Rattle.mr_cmd_hash.proofs.removing.push_removed.Given as goal

abbrev pub invariant-loop-field : goal.invariant-loop-field
invariant-loop-field l = record {
  key : l.group.key.now ≡ l.key;
  pushing : IsPushing (made.RemoveFields l.key) (λ f. not (contains_key l.hash f)) (λ f. not (contains_key l.hash f)) (keys l.names) l.initial.effects l.effects l.removed l.group.fields (map (λ e. e.0) l.field-iterator);
}
