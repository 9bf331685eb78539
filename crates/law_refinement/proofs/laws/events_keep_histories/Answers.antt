use Rattle.law_refinement.proofs.Beginning.{kept_histories}
use Rattle.law_refinement.proofs.laws.events_keep_histories.Goals as goal

pub returns : goal.returns
returns c = kept_histories
