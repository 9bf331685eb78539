use Rattle.std.proofs.Common.{◌≡◌, List, [], ◌∷◌, ◌++◌, Some, append_assoc, sym, ◌∙◌, ap, subst}
use Rattle.std.specs.List.{AllByRecursion}
use Rattle.std.specs.Option.{option_and_then}
use Rattle.mr_effect.specs.declared.effect.Effect.{Effect}
use Rattle.mr_keyspace.specs.Changes.{NeedsNoMemory}
use Rattle.mr_data.specs.Meaning.{apply, apply_all}
use Rattle.mr_data.proofs.Folding.{apply_all_more}
use Rattle.mr_data.proofs.dataset.Dataset.apply_all.Goals as goal

pub loop-effect-preserved : goal.loop-effect-preserved
loop-effect-preserved c =
    let e : Effect = c.in-Some-effect.effect in
    let rest : List Effect = c.next.new.self.rest.items in
    let one : apply e c.loop-effect.self ≡ Some c.apply_owned.new.self = c.in_ok-apply_owned.ensures.ok in
    let next : c.loop-effect.effect-iterator.rest.items ≡ e ∷ rest = c.in-Some-effect.ensures.steps.0 in
    record {
      folded = sym (ap (option_and_then (apply_all rest)) one) ∙ sym (ap (λ (es : List Effect). apply_all es c.loop-effect.self) next) ∙ c.loop-effect.invariant.folded;
      begun = apply_all_more c.loop-effect.yielded e c.args.self.now c.loop-effect.self c.apply_owned.new.self c.loop-effect.invariant.begun one;
      each = append_assoc c.loop-effect.yielded (e ∷ []) rest ∙ sym (ap (λ (es : List Effect). c.loop-effect.yielded ++ es) next) ∙ c.loop-effect.invariant.each;
      light = λ h. (subst (AllByRecursion NeedsNoMemory) next (c.loop-effect.invariant.light h)).1;
    }
