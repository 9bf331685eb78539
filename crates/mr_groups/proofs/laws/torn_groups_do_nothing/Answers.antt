use Rattle.mr_groups.proofs.Cuts.{begun_is_not_bad}
use Rattle.mr_groups.proofs.Runs.{torn_begins_none, torn_loads_none}
use Rattle.mr_groups.proofs.laws.torn_groups_do_nothing.Goals as goal

pub returns-clause-none : goal.returns-clause-none
returns-clause-none c = torn_begins_none

pub returns-clause-not_bad : goal.returns-clause-not_bad
returns-clause-not_bad c = begun_is_not_bad

pub returns-clause-loaded : goal.returns-clause-loaded
returns-clause-loaded c = torn_loads_none
