use Rattle.law_minired.proofs.Opened.{only_exec}
use Rattle.law_minired.proofs.laws.only_exec_has_effects.Goals as goal

pub returns : goal.returns
returns c = only_exec
