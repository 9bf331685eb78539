use Rattle.mr_resp.specs.Command.{IsCommandText, HasCommandFault}
use Rattle.mr_resp.proofs.CommandReasons.{command_fault, doomed_command_bad}
use Rattle.mr_resp.proofs.OneFault.{fails_doomed}
use Rattle.mr_resp.proofs.laws.command_fault_is_one.Goals as goal

pub returns-clause-one : goal.returns-clause-one
returns-clause-one c = command_fault

pub returns-clause-doomed : goal.returns-clause-doomed
returns-clause-doomed c = λ limits input f. fails_doomed (IsCommandText limits) (HasCommandFault limits f) input

pub returns-clause-told : goal.returns-clause-told
returns-clause-told c = doomed_command_bad
