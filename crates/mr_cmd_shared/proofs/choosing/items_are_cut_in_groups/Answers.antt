use Rattle.mr_keyspace.proofs.Cutting.{cut_whole}
use Rattle.mr_cmd_shared.proofs.OnceLemmas.{groups_small}
use Rattle.mr_cmd_shared.proofs.choosing.items_are_cut_in_groups.Goals as goal

pub returns-clause-whole : goal.returns-clause-whole
returns-clause-whole g c = cut_whole

pub returns-clause-groups : goal.returns-clause-groups
returns-clause-groups g c = groups_small
