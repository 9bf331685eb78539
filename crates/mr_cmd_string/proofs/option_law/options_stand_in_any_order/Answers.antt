use Rattle.mr_cmd_string.proofs.SetOrderLemmas.{set_in_any_order}
use Rattle.mr_cmd_string.proofs.option_law.options_stand_in_any_order.Goals as goal

pub returns : goal.returns
returns c = set_in_any_order
