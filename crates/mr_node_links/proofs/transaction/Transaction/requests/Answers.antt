use Rattle.std.proofs.Common.{List, ℕ, All, subst, ap}
use Rattle.mr_node_links.specs.State.{Transaction, CanWait}
use Rattle.mr_node_links.proofs.transaction.Transaction.requests.Goals as goal

pub returns-clause-requests : goal.returns-clause-requests
returns-clause-requests c = subst (All CanWait) (ap (λ (t : Transaction). t.queued) c.self.view_is) c.self.invariant
