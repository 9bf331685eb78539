use Rattle.law_protocol_example.proofs.LateAcceptRun.{late_accepts_are_a_run}
use Rattle.law_protocol_example.proofs.laws.late_accepts_are_a_run.Goals as goal

pub returns : goal.returns
returns c = late_accepts_are_a_run
