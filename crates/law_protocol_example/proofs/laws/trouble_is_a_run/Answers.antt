use Rattle.law_protocol_example.proofs.TroublesRun.{troubles_are_a_run}
use Rattle.law_protocol_example.proofs.laws.trouble_is_a_run.Goals as goal

pub returns : goal.returns
returns c = troubles_are_a_run
