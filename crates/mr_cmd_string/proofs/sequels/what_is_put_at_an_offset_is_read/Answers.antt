use Rattle.mr_cmd_string.proofs.AfterAndReply.{setrange_read}
use Rattle.mr_cmd_string.proofs.sequels.what_is_put_at_an_offset_is_read.Goals as goal

pub returns : goal.returns
returns c = setrange_read
