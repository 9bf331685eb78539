use Rattle.mr_ask.proofs.AskLemmas.{asked_spelled, asked_fits}
use Rattle.mr_ask.proofs.reading.read.Goals as goal

pub returns-clause-spelled : goal.returns-clause-spelled
returns-clause-spelled c = rw c.command.ensures (asked_spelled _)

pub returns-clause-fits : goal.returns-clause-fits
returns-clause-fits c = λ h. rw c.command.ensures (asked_fits _ h)
