use Rattle.mr_cmd_set.proofs.Meanings.{in_all, in_any, in_first_alone}
use Rattle.mr_cmd_set.proofs.laws.sets_are_combined.Goals as goal

pub returns-clause-intersection : goal.returns-clause-intersection
returns-clause-intersection c = λ s ss x. in_all x s ss

pub returns-clause-union : goal.returns-clause-union
returns-clause-union c = λ s ss x. in_any x s ss

pub returns-clause-difference : goal.returns-clause-difference
returns-clause-difference c = λ s ss x. in_first_alone x s ss
