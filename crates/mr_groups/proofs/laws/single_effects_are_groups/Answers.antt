use Rattle.mr_groups.proofs.Runs.{single_texts, single_applied}
use Rattle.mr_groups.proofs.laws.single_effects_are_groups.Goals as goal

pub returns-clause-texts : goal.returns-clause-texts
returns-clause-texts c = single_texts

pub returns-clause-applied : goal.returns-clause-applied
returns-clause-applied c = single_applied
