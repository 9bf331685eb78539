use Rattle.law_protocol_example.proofs.TransferRun.{acts_at_its_end}
use Rattle.law_protocol_example.proofs.laws.a_transaction_acts_at_its_end.Goals as goal

pub returns : goal.returns
returns c = acts_at_its_end
