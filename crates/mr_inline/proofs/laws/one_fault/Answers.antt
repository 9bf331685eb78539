use Rattle.mr_inline.proofs.LinesByRuns.{only_fault}
use Rattle.mr_inline.proofs.laws.one_fault.Goals as goal

pub returns : goal.returns
returns c = only_fault
