use Rattle.law_files.proofs.Worlds.{opens, dials, connects, accepts, feeds, breaks, others}
use Rattle.law_files.proofs.laws.files_go_on_at_links.Goals as goal

pub returns-clause-opens : goal.returns-clause-opens
returns-clause-opens c = opens

pub returns-clause-dials : goal.returns-clause-dials
returns-clause-dials c = dials

pub returns-clause-connects : goal.returns-clause-connects
returns-clause-connects c = connects

pub returns-clause-accepts : goal.returns-clause-accepts
returns-clause-accepts c = accepts

pub returns-clause-feeds : goal.returns-clause-feeds
returns-clause-feeds c = feeds

pub returns-clause-breaks : goal.returns-clause-breaks
returns-clause-breaks c = breaks

pub returns-clause-others : goal.returns-clause-others
returns-clause-others c = others
