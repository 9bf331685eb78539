use Rattle.mr_data.proofs.RebuildingLaws.{dataset_made}
use Rattle.mr_data.proofs.laws.rebuilding_makes_the_dataset.Goals as goal

pub returns : goal.returns
returns c = dataset_made
