use Rattle.mr_data.proofs.Datasets.{IsDataset-empty}
use Rattle.mr_data.proofs.dataset.Dataset.new.Goals as goal

pub invariant_of-result : goal.invariant_of-result
invariant_of-result c = rw c.new.ensures IsDataset-empty
