use Rattle.std.proofs.Common.{◌∙◌, sym, ap}
use Rattle.std.specs.Prelude.{option_copied, option_map}
use Rattle.std.specs.FinMap.{get}
use Rattle.mr_value.proofs.NamedLemmas.{value_found}
use Rattle.mr_value.proofs.by_name.ByName.get.Goals as goal

pub returns-in-Some : goal.returns-in-Some
returns-in-Some g c =
    ap (λ t. option_map (λ x. x.value) (option_copied t)) (sym c.in-Some.is)
    ∙ value_found c.args.name.now c.self.inside.named (option_copied c.found.result) c.found.ensures ∙ ap (λ m. get m c.args.name.now) c.self.view_is

pub returns-in-None : goal.returns-in-None
returns-in-None g c =
    ap (λ t. option_map (λ x. x.value) (option_copied t)) (sym c.in-None.is)
    ∙ value_found c.args.name.now c.self.inside.named (option_copied c.found.result) c.found.ensures ∙ ap (λ m. get m c.args.name.now) c.self.view_is
