use Rattle.std.proofs.Common.{◌∙◌, Some, sym, ap}
use Rattle.std.specs.Prelude.{option_map}
use Rattle.std.specs.FinMap.{get, remove}
use Rattle.mr_value.proofs.NamedLemmas.{value_taken, values_taken}
use Rattle.mr_value.proofs.by_name.ByName.remove.Goals as goal

pub returns-in_err-named-clause-before : goal.returns-in_err-named-clause-before
returns-in_err-named-clause-before g c =
    c.from_residual.ensures ∙ ap (option_map (λ x. x.value)) (sym c.in_err-named.was)
    ∙ value_taken c.args.name.now c.self.inside.named c.taken.new.named c.taken.result c.taken.ensures ∙ ap (λ m. get m c.args.name.now) c.self.view_is

pub returns-in_err-named-clause-removed : goal.returns-in_err-named-clause-removed
returns-in_err-named-clause-removed g c =
    values_taken c.args.name.now c.self.inside.named c.taken.new.named c.taken.result c.taken.ensures ∙ ap (λ m. remove m c.args.name.now) c.self.view_is

pub returns-clause-before : goal.returns-clause-before
returns-clause-before g c =
    ap (λ v. Some v) c.into_value.ensures ∙ ap (option_map (λ x. x.value)) (sym c.in_ok-named.was)
    ∙ value_taken c.args.name.now c.self.inside.named c.taken.new.named c.taken.result c.taken.ensures ∙ ap (λ m. get m c.args.name.now) c.self.view_is

pub returns-clause-removed : goal.returns-clause-removed
returns-clause-removed g c =
    values_taken c.args.name.now c.self.inside.named c.taken.new.named c.taken.result c.taken.ensures ∙ ap (λ m. remove m c.args.name.now) c.self.view_is
