use Rattle.mr_data.proofs.RebuildingLaws.{dataset_made, rebuilding_spelled, rebuilding_fits, rebuilding_short}
use Rattle.mr_data.proofs.dataset.Dataset.rebuild.Goals as goal

pub returns-clause-again : goal.returns-clause-again
returns-clause-again c = dataset_made c.args.self.now c.effect_texts.ensures.kept

pub returns-clause-spelled : goal.returns-clause-spelled
returns-clause-spelled c = rebuilding_spelled c.args.self.now c.effect_texts.ensures.kept

pub returns-clause-fit : goal.returns-clause-fit
returns-clause-fit c = rebuilding_fits c.args.self.now c.effect_texts.ensures.kept

pub returns-clause-short : goal.returns-clause-short
returns-clause-short c = rebuilding_short c.args.self.now c.effect_texts.ensures.kept
