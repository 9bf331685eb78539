use Rattle.mr_cmd_shared.proofs.AfterAndReply.{next_sees}
use Rattle.mr_cmd_shared.proofs.sequels.what_is_left_is_seen.Goals as goal

pub returns : goal.returns
returns c = next_sees
