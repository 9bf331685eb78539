use Rattle.mr_data.proofs.Leaving.{removed}
use Rattle.mr_data.proofs.dataset.Dataset.remove.Goals as goal

pub returns : goal.returns
returns c = removed c.args.key.now c.borrowed.result c.args.self.now c.apply_owned.new.self c.apply_owned.result c.borrowed.ensures c.requires c.apply_owned.ensures.ok c.apply_owned.ensures.refused (c.apply_owned.ensures.memory tt)
