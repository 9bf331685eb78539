use Rattle.std.proofs.Common.{◌≡◌}
use Rattle.std.specs.FinMap.{entries, get, contains_key}
use Rattle.mr_effect.specs.declared.effect.Effect.TheVariants as made
use Rattle.mr_cmd_hash.specs.Hashes.{is_value}
use Rattle.mr_cmd_hash.proofs.Pushing.{IsPushing}
use Rattle.mr_cmd_hash.proofs.setting.push_changed.Given as goal

abbrev pub invariant-loop-field : goal.invariant-loop-field
invariant-loop-field l = record {
  key : l.group.key.now ≡ l.key;
  pushing : IsPushing (made.SetFields l.key) (λ p. is_value p.1 (get l.hash p.0)) (λ p. contains_key l.hash p.0) (entries l.values) l.initial.effects l.effects l.new l.group.pairs l.field-iterator;
}
