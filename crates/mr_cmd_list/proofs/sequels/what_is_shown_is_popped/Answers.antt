use Rattle.mr_cmd_list.proofs.AfterAndReply.{pop_end}
use Rattle.mr_cmd_list.proofs.sequels.what_is_shown_is_popped.Goals as goal

pub returns : goal.returns
returns c = pop_end
