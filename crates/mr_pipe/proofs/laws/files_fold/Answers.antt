use Rattle.mr_pipe.proofs.Folds as folds
use Rattle.mr_pipe.proofs.laws.files_fold.Goals as goal

pub returns-clause-whole : goal.returns-clause-whole
returns-clause-whole c = folds.files_fold

pub returns-clause-torn : goal.returns-clause-torn
returns-clause-torn c = folds.files_fold_torn
