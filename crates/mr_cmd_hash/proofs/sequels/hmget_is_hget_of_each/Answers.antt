use Rattle.mr_cmd_hash.proofs.AfterAndReply.{each_got}
use Rattle.mr_cmd_hash.proofs.sequels.hmget_is_hget_of_each.Goals as goal

pub returns : goal.returns
returns c = each_got
