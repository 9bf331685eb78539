use Rattle.mr_value.proofs.Uniform.{turns_left, turns_right}
use Rattle.mr_value.proofs.laws.uniform_lists.Goals as goal

pub returns-clause-left : goal.returns-clause-left
returns-clause-left c = turns_left

pub returns-clause-right : goal.returns-clause-right
returns-clause-right c = turns_right
