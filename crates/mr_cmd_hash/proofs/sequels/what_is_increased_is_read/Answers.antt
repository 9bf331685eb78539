use Rattle.mr_cmd_hash.proofs.AfterAndReply.{increase_read}
use Rattle.mr_cmd_hash.proofs.sequels.what_is_increased_is_read.Goals as goal

pub returns : goal.returns
returns c = increase_read
