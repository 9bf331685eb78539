use Rattle.mr_world_script.proofs.Prints.{printed_tell}
use Rattle.mr_world_script.proofs.laws.printed_bytes_tell.Goals as goal

pub returns : goal.returns
returns c = printed_tell
