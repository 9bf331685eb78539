use Rattle.std.proofs.Common.{◌∙◌, sym, ap}
use Rattle.std.specs.FinMap.{entries}
use Rattle.mr_value.proofs.SortedPairs.{entries_made}
use Rattle.mr_value.proofs.few_fields.FewFields.iter.Goals as goal

pub returns : goal.returns
returns c = c.iter.ensures ∙ sym (entries_made c.self.inside.pairs c.self.invariant) ∙ ap entries c.self.view_is
