use Rattle.std.proofs.Common.{◌∙◌, sym, ap}
use Rattle.std.specs.FinMap.{contains_key}
use Rattle.mr_value.proofs.SetLemmas.{contains_told, same_short}
use Rattle.mr_value.proofs.set_value.SetValue.contains.Goals as goal

pub returns-in-Some : goal.returns-in-Some
returns-in-Some c =
    let told = c.contains.ensures in
    let short = c.in-Some.short in
    sym told.told ∙ contains_told short c.self.inside.members told.place told.is
    ∙ (λ i. contains_key (c.self.view_is i) (same_short c.of.result short c.args.member.now c.of.ensures.same c.in-Some.is i))

pub returns-in-None : goal.returns-in-None
returns-in-None c =
    let told = c.contains-in-None.ensures in
    sym told.told ∙ contains_told c.args.member.now c.self.inside.members told.place told.is ∙ ap (λ m. contains_key m c.args.member.now) c.self.view_is
