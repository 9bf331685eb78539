use Rattle.std.proofs.Common.{◌≡◌, ◌∙◌, min, length, drop, sym, ap, arith}
use Rattle.std.specs.FinMap.{keys}
use Rattle.mr_value.proofs.SetLemmas.{drop_min, keys_listed}
use Rattle.mr_value.proofs.set_value.SetValue.members_from.Goals as goal

pub returns : goal.returns
returns c =
    let members = c.self.inside.members in
    let from = c.min-from.result in
    let least : from ≡ min c.args.place (length members) = omega (arith, c.min-from.ensures, c.len.ensures.len) in
    c.«new».ensures ∙ c.iter_from.ensures ∙ drop_min c.args.place from members least
    ∙ ap (drop c.args.place) (sym (keys_listed members c.len.ensures.ordered)) ∙ ap (λ s. drop c.args.place (keys s)) c.self.view_is
