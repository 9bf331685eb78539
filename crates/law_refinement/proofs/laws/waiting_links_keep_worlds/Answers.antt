use Rattle.law_refinement.proofs.Accepting.{connects_keep, accepts_keep}
use Rattle.law_refinement.proofs.laws.waiting_links_keep_worlds.Goals as goal

pub returns-clause-connects : goal.returns-clause-connects
returns-clause-connects c = connects_keep

pub returns-clause-accepts : goal.returns-clause-accepts
returns-clause-accepts c = accepts_keep
