use Rattle.mr_world.proofs.FilesPassing.{files_are_datasets}
use Rattle.mr_world.proofs.laws.files_are_datasets.Goals as goal

pub returns : goal.returns
returns c = files_are_datasets
