use Rattle.mr_pipe.proofs.Folds as folds
use Rattle.mr_pipe.proofs.laws.files_stay_synced.Goals as goal

pub returns : goal.returns
returns c = folds.files_stay_synced
