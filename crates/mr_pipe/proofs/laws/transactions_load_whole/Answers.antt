use Rattle.mr_pipe.proofs.Transactions as transactions
use Rattle.mr_pipe.proofs.laws.transactions_load_whole.Goals as goal

pub returns : goal.returns
returns c = transactions.load_whole
