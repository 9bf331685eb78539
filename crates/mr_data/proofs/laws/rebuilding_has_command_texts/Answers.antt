use Rattle.mr_data.proofs.RebuildingLaws.{rebuilding_spelled, rebuilding_fits, rebuilding_short}
use Rattle.mr_data.proofs.laws.rebuilding_has_command_texts.Goals as goal

pub returns-clause-spelled : goal.returns-clause-spelled
returns-clause-spelled c = rebuilding_spelled

pub returns-clause-fit : goal.returns-clause-fit
returns-clause-fit c = rebuilding_fits

pub returns-clause-short : goal.returns-clause-short
returns-clause-short c = rebuilding_short
