use Rattle.mr_value.proofs.Removals.{turned, length-without}
use Rattle.mr_value.proofs.laws.removals_mirrored.Goals as goal

pub returns-clause-turned : goal.returns-clause-turned
returns-clause-turned c = turned

pub returns-clause-counted : goal.returns-clause-counted
returns-clause-counted c = length-without
