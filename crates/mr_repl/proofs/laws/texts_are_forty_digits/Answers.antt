use Rattle.mr_repl.proofs.IdTexts.{texts_are_forty}
use Rattle.mr_repl.proofs.laws.texts_are_forty_digits.Goals as goal

pub returns : goal.returns
returns c = texts_are_forty
