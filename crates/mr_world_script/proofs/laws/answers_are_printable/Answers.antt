use Rattle.mr_world_script.proofs.Printable.{answer_printable}
use Rattle.mr_world_script.proofs.laws.answers_are_printable.Goals as goal

pub returns : goal.returns
returns c = answer_printable
