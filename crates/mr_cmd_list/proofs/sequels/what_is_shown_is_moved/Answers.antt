use Rattle.mr_cmd_list.proofs.AfterAndReply.{move_taken, move_put}
use Rattle.mr_cmd_list.proofs.sequels.what_is_shown_is_moved.Goals as goal

pub returns-clause-taken : goal.returns-clause-taken
returns-clause-taken c = move_taken

pub returns-clause-put : goal.returns-clause-put
returns-clause-put c = move_put
