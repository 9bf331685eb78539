use Rattle.mr_effect.proofs.Folding.{texts-append}
use Rattle.mr_effect.proofs.laws.texts_come_in_parts.Goals as goal

pub returns : goal.returns
returns c = texts-append
