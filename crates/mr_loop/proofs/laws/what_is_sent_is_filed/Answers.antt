use Rattle.mr_loop.proofs.Sending.{is_sent_once_filed}
use Rattle.mr_loop.proofs.laws.what_is_sent_is_filed.Goals as goal

pub returns : goal.returns
returns c = is_sent_once_filed
