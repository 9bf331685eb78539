use Rattle.mr_data.proofs.Folding.{apply_all-append}
use Rattle.mr_data.proofs.laws.effects_come_in_parts.Goals as goal

pub returns : goal.returns
returns c = apply_all-append
