use Rattle.std.proofs.Common.{◌∙◌, ap}
use Rattle.std.specs.Prelude.{Some}
use Rattle.mr_trio.proofs.desk.Desk.ask.Goals as goal

pub returns-in-Ok-ask-clause-asked : goal.returns-in-Ok-ask-clause-asked
returns-in-Ok-ask-clause-asked c = record { end = c.in-Ok.client; from = c.in-Ok.ensures.from; is = c.put.ensures ∙ ap Some c.in-Ok-ask.ensures.ok }
