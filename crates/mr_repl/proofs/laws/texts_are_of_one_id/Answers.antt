use Rattle.mr_repl.proofs.Successions.{same_id}
use Rattle.mr_repl.proofs.laws.texts_are_of_one_id.Goals as goal

pub returns : goal.returns
returns c = same_id
