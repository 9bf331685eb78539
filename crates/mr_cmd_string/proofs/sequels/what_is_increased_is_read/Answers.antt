use Rattle.mr_cmd_string.proofs.AfterAndReply.{increase_read, increase_sum}
use Rattle.mr_cmd_string.proofs.sequels.what_is_increased_is_read.Goals as goal

pub returns-clause-read : goal.returns-clause-read
returns-clause-read c = increase_read

pub returns-clause-sum : goal.returns-clause-sum
returns-clause-sum c = increase_sum
