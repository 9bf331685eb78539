use Rattle.std.proofs.Common.{◌≡◌, [], ◌∷◌, ◌++◌, ◌∙◌, ap, sym, subst, not, length, map, List, Bool, arith}
use Rattle.std.specs.Prelude.{filter, if◌then◌else◌}
use Rattle.std.specs.FinMap.{entries, keys, contains_key, len-entries}
use Rattle.std.proofs.lemmas.List.{length-map}
use Rattle.std.proofs.lemmas.List.Sums.{length-filter, count_by-le-length}
use Rattle.mr_map.specs.Bytes.{Bytes}
use Rattle.mr_effect.specs.declared.effect.Effect.{Effect}
use Rattle.mr_effect.specs.declared.effect.Effect.TheVariants as made
use Rattle.mr_keyspace.specs.Cuts.{cut}
use Rattle.mr_cmd_shared.specs.Groups.{TakesItems}
use Rattle.mr_cmd_hash.proofs.Pushing.{pushing_starts, pushing_goes, pushed_new, pushed_effects, filter_passing, taken_passing}
use Rattle.mr_cmd_hash.proofs.removing.push_removed.Goals as goal

field_takes : (k k2 f : Bytes) (there b : Bool) (g g2 : List Bytes) (es es2 : List Effect) → k2 ≡ k → there ≡ b → TakesItems (made.RemoveFields k2) (if there then f ∷ [] else []) g g2 es es2 → TakesItems (made.RemoveFields k) (if not b then [] else f ∷ []) g g2 es es2
field_takes k k2 f there b g g2 es es2 same is t =
    subst (λ (x : Bytes). TakesItems (made.RemoveFields x) (if not b then [] else f ∷ []) g g2 es es2) same
    (taken_passing (made.RemoveFields k2) f b g g2 es es2 (subst (λ (x : Bool). TakesItems (made.RemoveFields k2) (if x then f ∷ [] else []) g g2 es es2) is t))

pub loop-field-init : goal.loop-field-init
loop-field-init c = record {
  key = c.new-group.ensures.key ∙ c.as_slice.ensures;
  pushing = pushing_starts _ _ _ _ _ _ _ _ (c.len-removed.ensures.len ∙ len-entries c.args.names.now ∙ sym (length-map (entries c.args.names.now) (λ e. e.0))) c.new-group.ensures.fields
      (ap (map (λ e. e.0)) (c.into_iter-field-iterator.ensures.into_iter_gives ∙ c.iter-field-items.ensures));
}

pub loop-field-preserved : goal.loop-field-preserved
loop-field-preserved c = record {
  key = c.push.ensures.key ∙ c.loop-field.invariant.key;
  pushing = rw c.from-removed.ensures (pushing_goes _ _ _ _ _ _ _ _ _ _ _ _ c.in-Some.field.now (not c.contains-there.result) c.loop-field.invariant.pushing (ap (map (λ e. e.0)) c.in-Some.ensures.steps) (ap not c.contains-there.ensures)
      (field_takes _ _ _ _ _ _ _ _ _ c.loop-field.invariant.key c.contains-there.ensures c.in_ok-push.ensures.takes));
}

pub returns-clause-removed : goal.returns-clause-removed
returns-clause-removed c =
    pushed_new _ _ _ _ _ _ _ _ _ c.loop-field.invariant.pushing (ap (map (λ e. e.0)) c.in-None.ensures.steps.0)
    ∙ ap length (filter_passing (contains_key c.args.hash.now) (keys c.args.names.now))

pub returns-clause-small : goal.returns-clause-small
returns-clause-small c =
    let test = λ (f : Bytes). contains_key c.args.hash.now f in
    let removed : c.loop-field.removed ≡ length (filter test (keys c.args.names.now)) =
    pushed_new _ _ _ _ _ _ _ _ _ c.loop-field.invariant.pushing (ap (map (λ e. e.0)) c.in-None.ensures.steps.0) ∙ ap length (filter_passing test (keys c.args.names.now)) in
    omega (arith, removed, length-filter test (keys c.args.names.now), count_by-le-length test (keys c.args.names.now), length-map (entries c.args.names.now) (λ e. e.0), c.len-removed.ensures.len, len-entries c.args.names.now)

pub returns-clause-effects : goal.returns-clause-effects
returns-clause-effects c =
    pushed_effects _ _ _ _ _ _ _ _ _ _ c.loop-field.invariant.pushing (ap (map (λ e. e.0)) c.in-None.ensures.steps.0)
    (c.in_ok-end_fields.ensures ∙ ap (λ (k : Bytes). c.loop-field.effects ++ map (made.RemoveFields k) (cut c.loop-field.group.fields)) c.loop-field.invariant.key)
    ∙ ap (λ xs. c.args.effects.now ++ map (made.RemoveFields c.args.key.now) (cut xs)) (filter_passing (contains_key c.args.hash.now) (keys c.args.names.now))
