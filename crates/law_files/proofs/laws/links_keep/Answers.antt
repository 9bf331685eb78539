use Rattle.law_files.proofs.Links.{opens_keep, dials_keep, feeds_keep, breaks_keep}
use Rattle.law_files.proofs.laws.links_keep.Goals as goal

pub returns-clause-opens : goal.returns-clause-opens
returns-clause-opens c = opens_keep

pub returns-clause-dials : goal.returns-clause-dials
returns-clause-dials c = dials_keep

pub returns-clause-feeds : goal.returns-clause-feeds
returns-clause-feeds c = feeds_keep

pub returns-clause-breaks : goal.returns-clause-breaks
returns-clause-breaks c = breaks_keep
