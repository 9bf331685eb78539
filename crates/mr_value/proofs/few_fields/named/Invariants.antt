use Rattle.std.proofs.Common.{◌≡◌}
use Rattle.std.specs.FinMap.{empty}
use Rattle.mr_value.specs.Filling.{with_pairs}
use Rattle.mr_value.proofs.few_fields.named.Given as goal

abbrev pub invariant-loop-field : goal.invariant-loop-field
invariant-loop-field l = with_pairs l.field-iterator l.named ≡ with_pairs l.fn.pairs empty
