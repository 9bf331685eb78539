use Rattle.mr_cmd_string.proofs.AfterAndReply.{each_got}
use Rattle.mr_cmd_string.proofs.sequels.mget_is_get_of_each.Goals as goal

pub returns : goal.returns
returns c = each_got
