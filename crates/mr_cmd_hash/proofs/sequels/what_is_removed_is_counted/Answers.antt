use Rattle.mr_cmd_hash.proofs.AfterAndReply.{remove_counts}
use Rattle.mr_cmd_hash.proofs.sequels.what_is_removed_is_counted.Goals as goal

pub returns : goal.returns
returns c = remove_counts
