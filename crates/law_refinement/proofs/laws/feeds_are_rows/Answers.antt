use Rattle.law_refinement.proofs.Linking.{server_feeds, master_feeds}
use Rattle.law_refinement.proofs.laws.feeds_are_rows.Goals as goal

pub returns-clause-served : goal.returns-clause-served
returns-clause-served c = server_feeds

pub returns-clause-master : goal.returns-clause-master
returns-clause-master c = master_feeds
