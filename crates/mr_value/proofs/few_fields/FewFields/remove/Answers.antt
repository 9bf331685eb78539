use Rattle.std.proofs.Common.{◌∙◌, sym, ap}
use Rattle.std.specs.FinMap.{contains_key, remove}
use Rattle.mr_value.proofs.SortedPairs.{made_kept, made_removed, sorted_removed, there_first, there_nowhere}
use Rattle.mr_value.proofs.few_fields.FewFields.remove.Goals as goal

pub returns-in_default-clause-before : goal.returns-in_default-clause-before
returns-in_default-clause-before c =
    sym (there_nowhere c.args.field.now c.self.inside.pairs c.in_default.ensures.none)
    ∙ ap (λ m. contains_key m c.args.field.now) c.self.view_is

pub returns-in_default-clause-removed : goal.returns-in_default-clause-removed
returns-in_default-clause-removed c =
    sym c.self.view_is ∙ made_kept c.args.field.now c.self.inside.pairs c.in_default.ensures.none
    ∙ ap (λ m. remove m c.args.field.now) c.self.view_is

pub invariant_of-self : goal.invariant_of-self
invariant_of-self c =
    sorted_removed c.args.field.now c.self.inside.pairs c.remove.new.self c.in-Some.at c.in-Some.ensures.found c.remove.ensures c.self.invariant

pub returns-clause-before : goal.returns-clause-before
returns-clause-before c =
    sym (there_first c.args.field.now c.self.inside.pairs c.in-Some.at c.in-Some.ensures.found)
    ∙ ap (λ m. contains_key m c.args.field.now) c.self.view_is

pub returns-clause-removed : goal.returns-clause-removed
returns-clause-removed c =
    made_removed c.args.field.now c.self.inside.pairs c.remove.new.self c.in-Some.at c.in-Some.ensures.found c.remove.ensures c.self.invariant
    ∙ ap (λ m. remove m c.args.field.now) c.self.view_is
