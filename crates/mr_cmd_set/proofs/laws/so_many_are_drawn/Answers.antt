use Rattle.std.specs.Prelude.{Some}
use Rattle.mr_cmd_set.proofs.Meanings.{drawn_length, drawn_once}
use Rattle.mr_cmd_set.proofs.Faithful.{taken_there}
use Rattle.mr_cmd_set.proofs.laws.so_many_are_drawn.Goals as goal

pub returns-clause-count : goal.returns-clause-count
returns-clause-count c = drawn_length

pub returns-clause-members : goal.returns-clause-members
returns-clause-members c = λ word n s x h. taken_there (Some n) word s x h

pub returns-clause-once : goal.returns-clause-once
returns-clause-once c = drawn_once
