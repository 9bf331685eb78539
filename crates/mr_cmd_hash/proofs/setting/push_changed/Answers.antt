use Rattle.std.proofs.Common.{rules, ◌≡◌, [], ◌∷◌, ◌∙◌, ap, subst, length, arith, List}
use Rattle.std.specs.Prelude.{not, filter, if◌then◌else◌, Option, is_some}
use Rattle.std.specs.FinMap.{entries, contains_key, len-entries}
use Rattle.std.proofs.lemmas.List.Sums.{length-filter, count_by-le-length}
use Rattle.mr_map.specs.Bytes.{Bytes}
use Rattle.mr_effect.specs.declared.effect.Effect.{Effect}
use Rattle.mr_effect.specs.declared.effect.Effect.TheVariants as made
use Rattle.mr_cmd_hash.specs.Hashes.{is_value}
use Rattle.mr_cmd_shared.specs.Groups.{TakesItems}
use Rattle.mr_cmd_hash.proofs.Pushing.{pushing_starts, pushing_goes, pushed_new, is_some-copied}
use Rattle.mr_cmd_hash.proofs.setting.push_changed.Goals as goal

pair_takes : (k k2 f v v2 : Bytes) (o o2 : Option Bytes) (g g2 : List (Bytes × Bytes)) (es es2 : List Effect) → k2 ≡ k → v2 ≡ v → o2 ≡ o → TakesItems (made.SetFields k2) (if is_value v2 o2 then [] else (f, v2) ∷ []) g g2 es es2 → TakesItems (made.SetFields k) (if is_value v o then [] else (f, v) ∷ []) g g2 es es2
pair_takes k k2 f v v2 o o2 g g2 es es2 a b c t =
    subst (λ (x : Bytes). TakesItems (made.SetFields x) (if is_value v o then [] else (f, v) ∷ []) g g2 es es2) a
    (subst (λ (x : Bytes). TakesItems (made.SetFields k2) (if is_value x o then [] else (f, x) ∷ []) g g2 es es2) b
    (subst (λ (x : Option Bytes). TakesItems (made.SetFields k2) (if is_value v2 x then [] else (f, v2) ∷ []) g g2 es es2) c t))

pub loop-field-init : goal.loop-field-init
loop-field-init c = record {
  key = c.new-group.ensures.key ∙ c.as_slice.ensures;
  pushing = pushing_starts _ _ _ _ _ _ _ _ (c.len-new.ensures.len ∙ len-entries c.args.values.now) c.new-group.ensures.pairs (c.into_iter-field-iterator.ensures.into_iter_gives ∙ c.iter-field-items.ensures);
}

pub loop-field-preserved : goal.loop-field-preserved
loop-field-preserved c = record {
  key = c.push.ensures.key ∙ c.loop-field.invariant.key;
  pushing = rw c.from-new.ensures (pushing_goes _ _ _ _ _ _ _ _ _ _ _ _ (c.in-Some.field.now, c.in-Some.value.now) c.is_some.result c.loop-field.invariant.pushing (search rules) (c.is_some.ensures ∙ is_some-copied c.get-before.result ∙ ap is_some c.get-before.ensures)
      (pair_takes _ _ _ _ _ _ _ _ _ _ _ c.loop-field.invariant.key c.as_slice-in-loop-field.ensures c.get-before.ensures c.in_ok-push.ensures.takes));
}

pub returns-clause-new : goal.returns-clause-new
returns-clause-new c = pushed_new _ _ _ _ _ _ _ _ _ c.loop-field.invariant.pushing c.in-None.ensures.steps.0

pub returns-clause-small : goal.returns-clause-small
returns-clause-small c =
    let new : c.loop-field.new ≡ length (filter (λ p. not (contains_key c.args.hash.now p.0)) (entries c.args.values.now)) = pushed_new _ _ _ _ _ _ _ _ _ c.loop-field.invariant.pushing c.in-None.ensures.steps.0 in
    omega (arith, new, length-filter (λ p. not (contains_key c.args.hash.now p.0)) (entries c.args.values.now), count_by-le-length (λ p. not (contains_key c.args.hash.now p.0)) (entries c.args.values.now), c.len-new.ensures.len, len-entries c.args.values.now)
