use Rattle.mr_data.proofs.TextsInOrder.{set_in_order}
use Rattle.mr_data.proofs.laws.texts_are_set_in_order.Goals as goal

pub returns : goal.returns
returns c = set_in_order
