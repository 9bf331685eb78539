use Rattle.std.proofs.Common.{reverse}
use Rattle.mr_value.proofs.Passing.{Passes}
use Rattle.mr_value.proofs.removing.pass_last.Given as goal

abbrev pub invariant-loop-removed : goal.invariant-loop-removed
invariant-loop-removed l = Passes (reverse l.fn.items.items) (reverse l.items.items) l.item l.most l.removed l.passed
