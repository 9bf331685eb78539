use Rattle.mr_loop.proofs.Supplying.{takes_each_once, turns_take_each_once}
use Rattle.mr_loop.proofs.laws.ids_are_taken_once.Goals as goal

pub returns-clause-calls : goal.returns-clause-calls
returns-clause-calls c = takes_each_once

pub returns-clause-turns : goal.returns-clause-turns
returns-clause-turns c = turns_take_each_once
