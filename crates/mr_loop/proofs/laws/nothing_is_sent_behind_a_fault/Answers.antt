use Rattle.mr_loop.proofs.Sending.{is_silent_behind_faults}
use Rattle.mr_loop.proofs.laws.nothing_is_sent_behind_a_fault.Goals as goal

pub returns : goal.returns
returns c = is_silent_behind_faults
