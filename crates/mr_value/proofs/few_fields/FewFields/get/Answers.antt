use Rattle.std.proofs.Common.{◌∙◌, Some, sym, ap}
use Rattle.std.specs.FinMap.{get}
use Rattle.mr_value.proofs.SortedPairs.{value_found, value_missed}
use Rattle.mr_value.proofs.few_fields.FewFields.get.Goals as goal

pub returns-in-Some : goal.returns-in-Some
returns-in-Some c =
    ap (λ v. Some v) c.second_at.ensures.string
    ∙ sym (value_found c.args.field.now c.self.inside.pairs c.in-Some.at c.in-Some.ensures.found) ∙ ap (λ m. get m c.args.field.now) c.self.view_is

pub returns-in-None : goal.returns-in-None
returns-in-None c = sym (value_missed c.args.field.now c.self.inside.pairs c.in-None.ensures.none) ∙ ap (λ m. get m c.args.field.now) c.self.view_is
