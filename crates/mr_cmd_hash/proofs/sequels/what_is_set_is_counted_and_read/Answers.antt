use Rattle.mr_cmd_hash.proofs.AfterAndReply.{set_counts, set_read}
use Rattle.mr_cmd_hash.proofs.sequels.what_is_set_is_counted_and_read.Goals as goal

pub returns-clause-count : goal.returns-clause-count
returns-clause-count c = set_counts

pub returns-clause-read : goal.returns-clause-read
returns-clause-read c = set_read
