use Rattle.mr_pipe.proofs.Transactions as transactions
use Rattle.mr_pipe.proofs.laws.open_transactions_wait.Goals as goal

pub returns : goal.returns
returns c = transactions.open_wait
