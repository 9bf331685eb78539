use Rattle.std.proofs.Common.{◌∙◌, sym, ap}
use Rattle.std.specs.FinMap.{len}
use Rattle.mr_value.proofs.SortedPairs.{len_made}
use Rattle.mr_value.proofs.few_fields.FewFields.len.Goals as goal

pub returns-clause-len : goal.returns-clause-len
returns-clause-len c = c.len.ensures.len ∙ sym (len_made c.self.inside.pairs c.self.invariant) ∙ ap len c.self.view_is
