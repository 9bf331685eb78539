use Rattle.law_protocol_example.proofs.LateAcceptRun.{is_answered_late}
use Rattle.law_protocol_example.proofs.laws.a_late_accept_is_answered.Goals as goal

pub returns : goal.returns
returns c = is_answered_late
