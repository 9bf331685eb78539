use Rattle.mr_cmd_list.proofs.AfterAndReply.{push_length, push_read}
use Rattle.mr_cmd_list.proofs.sequels.what_is_pushed_is_read.Goals as goal

pub returns-clause-length : goal.returns-clause-length
returns-clause-length c = push_length

pub returns-clause-read : goal.returns-clause-read
returns-clause-read c = push_read
