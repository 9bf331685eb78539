use Rattle.std.proofs.Common.{◌≡◌, List, [], ◌∷◌, ◌++◌, Some, Err, append_assoc, refl, sym, ◌∙◌, ap, arith}
use Rattle.std.proofs.lemmas.List.{length-append}
use Rattle.mr_effect.specs.declared.effect.Effect.{Effect}
use Rattle.mr_data.specs.Meaning.{apply}
use Rattle.mr_data.proofs.Folding.{apply_all_more}
use Rattle.mr_groups.proofs.Doing.{stops_at}
use Rattle.mr_groups.proofs.applying.apply_group_owned.Goals as goal

pub returns-in-Err : goal.returns-in-Err
returns-in-Err c =
    let e : Effect = c.in-Some.effect in
    let rest : List Effect = c.next.new.self.rest.items in
    let next : c.loop-effect.effect-iterator.rest.items ≡ e ∷ rest = c.in-Some.ensures.steps.0 in
    stops_at c.loop-effect.yielded rest c.args.effects.items e c.args.dataset.now c.loop-effect.dataset c.apply_owned.new.self c.loop-effect.is_first c.in-Err.fault c.fault_of.result (Err c.in-Err.fault)
    (ap (λ (es : List Effect). c.loop-effect.yielded ++ es) (sym next) ∙ c.loop-effect.invariant.each)
    c.loop-effect.invariant.begun
    c.loop-effect.invariant.first
    c.loop-effect.invariant.later
    refl
    c.in-Err.ensures.refused
    c.in-Err.ensures.unchanged
    c.in-Err.ensures.emptied
    c.in-Err.ensures.memory
    c.fault_of.ensures

pub loop-effect-preserved : goal.loop-effect-preserved
loop-effect-preserved c =
    let e : Effect = c.in-Some.effect in
    let rest : List Effect = c.next.new.self.rest.items in
    let one : apply e c.loop-effect.dataset ≡ Some c.apply_owned.new.self = c.in-Ok.ensures.ok in
    let next : c.loop-effect.effect-iterator.rest.items ≡ e ∷ rest = c.in-Some.ensures.steps.0 in
    record {
      begun = apply_all_more c.loop-effect.yielded e c.args.dataset.now c.loop-effect.dataset c.apply_owned.new.self c.loop-effect.invariant.begun one;
      each = append_assoc c.loop-effect.yielded (e ∷ []) rest ∙ sym (ap (λ (es : List Effect). c.loop-effect.yielded ++ es) next) ∙ c.loop-effect.invariant.each;
      first = λ t. cc;
      later = λ t. omega (arith, length-append c.loop-effect.yielded (e ∷ []));
    }
