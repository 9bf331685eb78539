use Rattle.std.proofs.Common.{◌≡◌, ◌∙◌, rules, ap}
use Rattle.std.specs.Prelude.{option_map}
use Rattle.std.specs.FinMap.{get, insert}
use Rattle.mr_value.proofs.NamedLemmas.{value_put, values_put}
use Rattle.mr_value.proofs.by_name.ByName.put.Goals as goal

pub returns-clause-before : goal.returns-clause-before
returns-clause-before g c =
    let mapped : c.map.result ≡ option_map (λ x. x.value) c.in_ok-before.before = search rules in
    mapped ∙ value_put _ c.self.inside.named c.replace.new.self c.in_ok-before.before c.in_ok-before.ensures.ok
    ∙ ap (λ m. get m c.args.name) c.self.view_is

pub returns-clause-ok : goal.returns-clause-ok
returns-clause-ok g c =
    values_put _ c.self.inside.named c.replace.new.self c.in_ok-before.before c.in_ok-before.ensures.ok
    ∙ ap (λ m. insert m c.args.name c.args.value) c.self.view_is
