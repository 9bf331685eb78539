use Rattle.mr_value.proofs.Passing.{Passes}
use Rattle.mr_value.proofs.removing.pass_first.Given as goal

abbrev pub invariant-loop-removed : goal.invariant-loop-removed
invariant-loop-removed l = Passes l.fn.items.items l.items.items l.item l.most l.removed l.passed
