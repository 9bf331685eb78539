use Rattle.std.proofs.Common.{◌∙◌, sym, ap}
use Rattle.std.specs.FinMap.{len}
use Rattle.mr_value.proofs.NamedLemmas.{len_listed}
use Rattle.mr_value.proofs.by_name.ByName.len.Goals as goal

pub returns-clause-len : goal.returns-clause-len
returns-clause-len g c = c.len.ensures.len ∙ sym (len_listed c.self.inside.named c.len.ensures.ordered) ∙ ap len c.self.view_is
