use Rattle.mr_resp.proofs.OneAnswer.{written_read, quoted_read}
use Rattle.mr_resp.proofs.laws.written_is_read.Goals as goal

pub returns-clause-array : goal.returns-clause-array
returns-clause-array c = written_read

pub returns-clause-quoted : goal.returns-clause-quoted
returns-clause-quoted c = quoted_read
