use Rattle.mr_map.specs.Bytes.{lent}
use Rattle.mr_data.proofs.Leaving.{kept_together}
use Rattle.mr_data.proofs.dataset.Dataset.remove_together.Goals as goal

pub invariant_of-self : goal.invariant_of-self
invariant_of-self c =
    kept_together c.in-Some.key.now (lent c.deref.result.now) c.self.inside.entries c.remove_many.new.self c.remove_many.result c.self.invariant c.in-Some.ensures.fits c.remove_many.ensures.applies c.remove_many.ensures.memory
