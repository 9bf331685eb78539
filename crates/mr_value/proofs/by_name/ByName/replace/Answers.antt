use Rattle.std.proofs.Common.{◌≡◌, ◌∙◌, Some, true, false, sym, ap}
use Rattle.std.specs.Prelude.{is_some}
use Rattle.std.specs.FinMap.{contains_key, get, insert}
use Rattle.mr_value.specs.Named.{values_of}
use Rattle.mr_value.proofs.NamedLemmas.{no_value, value_at, values_set}
use Rattle.mr_value.proofs.by_name.ByName.replace.Goals as goal

pub unreachable-requires : goal.unreachable-requires
unreachable-requires g c =
    let none = ap is_some (no_value c.args.name c.self.inside.named _ c.in-Err.ensures) in
    let some = ap (λ m. contains_key m c.args.name) c.self.view_is ∙ c.requires.there in
    let lie : true ≡ false = sym some ∙ none in
    cc

pub returns-clause-before : goal.returns-clause-before
returns-clause-before g c =
    ap (λ v. Some v) c.into_value.ensures ∙ ap (λ x. Some x.value) c.replace_at.ensures.before
    ∙ sym (value_at c.args.name c.self.inside.named c.in-Ok.at c.replace_at.result c.in-Ok.ensures) ∙ ap (λ m. get m c.args.name) c.self.view_is

pub returns-clause-replaced : goal.returns-clause-replaced
returns-clause-replaced g c =
    ap values_of c.replace_at.ensures.replaced ∙ values_set _ c.self.inside.named c.in-Ok.at c.in-Ok.ensures
    ∙ ap (λ m. insert m c.args.name c.args.value) c.self.view_is
