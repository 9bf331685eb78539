use Rattle.mr_cmd_key.proofs.ScanOrderLemmas.{scan_in_any_order}
use Rattle.mr_cmd_key.proofs.option_law.options_stand_in_any_order.Goals as goal

pub returns : goal.returns
returns c = scan_in_any_order
