use Rattle.mr_cmd_string.proofs.AfterAndReply.{append_length, append_read}
use Rattle.mr_cmd_string.proofs.sequels.what_is_appended_is_read.Goals as goal

pub returns-clause-length : goal.returns-clause-length
returns-clause-length c = append_length

pub returns-clause-read : goal.returns-clause-read
returns-clause-read c = append_read
