use Rattle.mr_groups.proofs.Apart.{one_group}
use Rattle.mr_groups.proofs.Runs.{many_groups}
use Rattle.mr_groups.proofs.laws.groups_are_told_apart.Goals as goal

pub returns-clause-one : goal.returns-clause-one
returns-clause-one c = one_group

pub returns-clause-many : goal.returns-clause-many
returns-clause-many c = many_groups
