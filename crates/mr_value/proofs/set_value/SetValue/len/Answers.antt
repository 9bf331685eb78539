use Rattle.std.proofs.Common.{◌∙◌, sym, ap}
use Rattle.std.specs.FinMap.{len}
use Rattle.mr_value.proofs.SetLemmas.{len_listed}
use Rattle.mr_value.proofs.set_value.SetValue.len.Goals as goal

pub returns-clause-len : goal.returns-clause-len
returns-clause-len c = c.len.ensures.len ∙ sym (len_listed c.self.inside.members c.len.ensures.ordered) ∙ ap len c.self.view_is
