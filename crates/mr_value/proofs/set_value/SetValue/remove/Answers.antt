use Rattle.std.proofs.Common.{◌∙◌, ap}
use Rattle.std.specs.FinMap.{contains_key, remove}
use Rattle.mr_value.proofs.SetLemmas.{taken_left, taken_told}
use Rattle.mr_value.proofs.set_value.SetValue.remove.Goals as goal

pub returns-clause-removed : goal.returns-clause-removed
returns-clause-removed c =
    c.is_some.ensures ∙ taken_told c.args.member.now c.self.inside.members c.take_out.new.members c.take_out.result c.take_out.ensures
    ∙ ap (λ s. contains_key s c.args.member.now) c.self.view_is

pub returns-clause-rest : goal.returns-clause-rest
returns-clause-rest c =
    taken_left c.args.member.now c.self.inside.members c.take_out.new.members c.take_out.result c.take_out.ensures
    ∙ ap (λ s. remove s c.args.member.now) c.self.view_is
