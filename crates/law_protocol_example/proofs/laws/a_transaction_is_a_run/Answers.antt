use Rattle.law_protocol_example.proofs.TransferRun.{transfer_is_a_run}
use Rattle.law_protocol_example.proofs.laws.a_transaction_is_a_run.Goals as goal

pub returns : goal.returns
returns c = transfer_is_a_run
