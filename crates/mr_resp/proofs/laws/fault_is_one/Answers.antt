use Rattle.mr_resp.specs.Request.{IsText, HasFault}
use Rattle.mr_resp.proofs.OneFault.{fails_doomed}
use Rattle.mr_resp.proofs.OneAnswer.{one_fault, doomed_bad}
use Rattle.mr_resp.proofs.laws.fault_is_one.Goals as goal

pub returns-clause-one : goal.returns-clause-one
returns-clause-one c = one_fault

pub returns-clause-doomed : goal.returns-clause-doomed
returns-clause-doomed c = λ limits input f. fails_doomed (IsText limits) (HasFault limits f) input

pub returns-clause-told : goal.returns-clause-told
returns-clause-told c = doomed_bad
