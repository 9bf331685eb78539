use Rattle.mr_ask.proofs.AskReadLemmas.{spelled_read}
use Rattle.mr_ask.proofs.laws.spelled_is_read.Goals as goal

pub returns : goal.returns
returns c = spelled_read
